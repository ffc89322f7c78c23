-- What is known of the sort of an expression, of its kind, and of the sort that two make.
use Rattle.std.specs.Prelude.{Bool, true, false, Option, None, Some}
use Rattle.kat_num.specs.declared.values.Sort.{Sort}
use Rattle.kat_num.specs.declared.values.Sort.TheVariants as sort
use Rattle.kat_judging.specs.declared.found.Family.{Family}
use Rattle.kat_judging.specs.declared.found.Family.TheVariants.{Numbers, Names, Truths}
use Rattle.kat_judging.specs.declared.found.Found.{Found}
use Rattle.kat_judging.specs.declared.found.Found.TheVariants.{Unknown, Exactly, SomeNumber}

abbrev pub family_of : Sort → Family
family_of sort.Int = Numbers
family_of sort.Nat = Numbers
family_of sort.Name = Names
family_of sort.Bool = Truths

abbrev pub found_family : Found → Option Family
found_family Unknown = None
found_family (Exactly s) = Some (family_of s)
found_family SomeNumber = Some Numbers

-- if a sort is required, what is found is accepted: that sort, `nat` for `int`, and what isn't known
abbrev pub accepts : Sort → Found → Bool
accepts asked Unknown = true
accepts sort.Int SomeNumber = true
accepts sort.Nat SomeNumber = true
accepts asked SomeNumber = false
accepts sort.Bool (Exactly sort.Bool) = true
accepts sort.Name (Exactly sort.Name) = true
accepts sort.Nat (Exactly sort.Nat) = true
accepts sort.Int (Exactly sort.Int) = true
accepts sort.Int (Exactly sort.Nat) = true
accepts asked (Exactly s) = false

-- a sum of two `nat` is `nat`, any other is `int`
abbrev pub sum_found : Found → Found → Found
sum_found (Exactly sort.Nat) (Exactly sort.Nat) = Exactly sort.Nat
sum_found (Exactly sort.Nat) Unknown = SomeNumber
sum_found (Exactly sort.Nat) SomeNumber = SomeNumber
sum_found Unknown (Exactly sort.Nat) = SomeNumber
sum_found SomeNumber (Exactly sort.Nat) = SomeNumber
sum_found Unknown Unknown = SomeNumber
sum_found Unknown SomeNumber = SomeNumber
sum_found SomeNumber Unknown = SomeNumber
sum_found SomeNumber SomeNumber = SomeNumber
sum_found a b = Exactly sort.Int

-- the greater, lesser or chosen one of two numbers is `nat` if both are
abbrev pub number_found : Found → Found → Found
number_found (Exactly sort.Int) b = Exactly sort.Int
number_found a (Exactly sort.Int) = Exactly sort.Int
number_found (Exactly sort.Nat) (Exactly sort.Nat) = Exactly sort.Nat
number_found a b = SomeNumber

-- of two numbers or two names; the first says which
abbrev pub two_found : Found → Found → Found
two_found a b = two_of (found_family a) a b where
  two_of : Option Family → Found → Found → Found
  two_of (Some Numbers) a b = number_found a b
  two_of (Some Names) a b = Exactly sort.Name
  two_of (Some Truths) a b = Unknown
  two_of None a b = Unknown
