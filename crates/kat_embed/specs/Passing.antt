-- Values as they are passed with calls by numbers.
use Rattle.std.specs.Prelude.{◌≡◌, ℕ, ◌^◌, Bool, true, false, ◌==◌, ℤ, pos, ◌*ℤ◌, ◌+ℤ◌, List, [], ◌∷◌, ◌++◌}
use Rattle.std.specs.List.{before_first}
use Rattle.kat_num.specs.Names.{name_of_code}
use Rattle.kat_num.specs.Values.{IsArgument}
use Rattle.kat_num.specs.declared.values.Sort.{Sort}
use Rattle.kat_num.specs.declared.values.Value.{Value}
use Rattle.kat_num.specs.declared.values.Value.TheVariants as value
use Rattle.kat_embed.specs.declared.passing.TaggedValue.{TaggedValue}

-- the bytes before the first one that is zero, or all of them
abbrev pub before_zero : List ℕ → List ℕ
before_zero bytes = before_first (λ byte. byte == 0) bytes

abbrev pub truth_number : Bool → ℕ
truth_number true = 1
truth_number false = 0

-- the number that the two halves write
abbrev pub number_of : TaggedValue → ℤ
number_of passed = passed.high *ℤ pos (2 ^ 64) +ℤ pos passed.low

-- what is passed says the value: of kind 0 a truth value, as 0 or 1; of kind 1 a number, by its halves; of kind 2 a name, by its bytes
abbrev pub Says : TaggedValue → Value → Type 0
Says passed (value.Bool truth) = (passed.kind ≡ 0) × (passed.low ≡ truth_number truth)
Says passed (value.Num z) = (passed.kind ≡ 1) × (number_of passed ≡ z)
Says passed (value.Name code) = (passed.kind ≡ 2) × (before_zero passed.name ≡ name_of_code code)

-- it says an argument of the sort
abbrev pub IsPassed : Sort → TaggedValue → Value → Type 0
IsPassed sort passed value = Says passed value × IsArgument sort value

-- as many are passed as there are sorts, and each says an argument of its sort
abbrev pub ArePassed : List Sort → List TaggedValue → List Value → Type 0
ArePassed [] [] [] = Unit {0}
ArePassed (sort ∷ sorts) (one ∷ passed) (value ∷ values) = IsPassed sort one value × ArePassed sorts passed values
ArePassed _ _ _ = ⊥

-- used inside only: the list goes on with the only values of which the fact holds
pub record GoesOn (front whole : List Value) (Fact : List Value → Type 0) : Type 0 where
  pub more : List Value
  pub joined : whole ≡ front ++ more
  pub fact : Fact more
  pub only : (others : List Value) → Fact others → others ≡ more
