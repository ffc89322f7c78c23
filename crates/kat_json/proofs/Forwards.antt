-- What is printed has no fault of form, and says what it was printed of: words, values and effects.
use Rattle.std.proofs.Common.{◌≡◌, List, [], ap, ◌∙◌, ℕ, ◌+◌, ◌∷◌, map, refl, ap₂, zero, suc, ◌<◌, arith, true, length, sym, Some, pos, negsuc, Option, None}
use Rattle.std.specs.Fmt.{digits}
use Rattle.std.proofs.lemmas.Bool.{le-leb, lt-ltb}
use Rattle.std.specs.Prelude.{◌^◌, nat_lt, unwrap_or}
use Rattle.kat_design.specs.Faults.{Path, each_faults}
use Rattle.serde_json.specs.Data.{Data, null, boolean, number, string, array, object}
use Rattle.kat_json.specs.Lists.{elements_of, list}
use Rattle.kat_json.proofs.ListLemmas.{elements_back}
use Rattle.kat_json.specs.FormFaults.{in_list, list_of_faults, sort_faults, key_sort_faults, key_faults, leaf_faults, value_faults, faults_unless, number_faults, effect_faults, pair_faults}
use Rattle.kat_design.specs.Sorted.{EachHas, IsWritten}
use Rattle.kat_json.specs.Parts.{list_said, sort_said, key_sort_said, key_said, leaf_said, value_said, number_said, effect_said, pair_said}
use Rattle.kat_num.specs.declared.values.Sort.{Sort}
use Rattle.kat_json.specs.Printed.{sort_data, key_data, leaf_data, value_data, natural, effect_data, keyed_data}
use Rattle.kat_design.specs.declared.designs.Leaf.{Leaf}
use Rattle.kat_num.specs.Names.{IsName, IsNameCode, code_of, name_of_code}
use Rattle.kat_json.specs.Words.{is_name, named, number_of}
use Rattle.kat_json.proofs.Backwards.{and_true}
use Rattle.kat_num.proofs.NameCodes.{name_of_code-code_of}
use Rattle.kat_num.specs.declared.values.Value.{Value}
use Rattle.kat_num.specs.declared.values.Sort.TheVariants as sort
use Rattle.kat_design.specs.declared.designs.Leaf.TheVariants as leaf
use Rattle.kat_num.specs.declared.values.Value.TheVariants as value

-- what is printed of x has no fault and says x
pub record GoesForth {A : Type 0} (faults : Data → List Path) (said : Data → A) (print : A → Data) (x : A) : Type 0 where
  pub none : faults (print x) ≡ []
  pub back : said (print x) ≡ x

pub elements_known : (ds : List Data) → elements_of (list ds) ≡ ds
elements_known ds = elements_back ds

pub in_list_none : (f : List Data → List Path) (ds : List Data) → f ds ≡ [] → in_list f (list ds) ≡ []
in_list_none f ds none = ap f (elements_back ds) ∙ none

pub each_forth : {A : Type 0} (f : Data → List Path) (said : Data → A) (print : A → Data) (i : ℕ) (xs : List A) → EachHas (GoesForth f said print) xs
    → (each_faults f i (map print xs) ≡ []) × (map said (map print xs) ≡ xs)
each_forth f said print i [] each = (refl, refl)
each_forth f said print i (x ∷ xs) each =
    let first = each.0 in
    let rest = each_forth f said print (i + 1) xs each.1 in
    (rw first.none rest.0, ap₂ (λ y ys. y ∷ ys) first.back rest.1)

pub list_forth : {A : Type 0} (f : Data → List Path) (said : Data → A) (print : A → Data) (xs : List A) → EachHas (GoesForth f said print) xs
    → GoesForth (list_of_faults f) (list_said said) (λ ys. list (map print ys)) xs
list_forth f said print xs each =
    let all = each_forth f said print 0 xs each in
    record { none = in_list_none (each_faults f 0) (map print xs) all.0; back = ap (λ ds. map said ds) (elements_known (map print xs)) ∙ all.1 }

pub sort_forth : (s : Sort) → GoesForth sort_faults sort_said sort_data s
sort_forth sort.Bool = record { none = refl; back = refl }
sort_forth sort.Int = record { none = refl; back = refl }
sort_forth sort.Nat = record { none = refl; back = refl }
sort_forth sort.Name = record { none = refl; back = refl }

pub key_sort_forth : (s : Sort) → (s ≡ sort.Bool → ⊥) → GoesForth key_sort_faults key_sort_said sort_data s
key_sort_forth sort.Bool is = absurd (is refl)
key_sort_forth sort.Int is = record { none = refl; back = refl }
key_sort_forth sort.Nat is = record { none = refl; back = refl }
key_sort_forth sort.Name is = record { none = refl; back = refl }

pub key_forth : (place : ℕ) → place < 4 → GoesForth key_faults key_said key_data place
unfolding digits
key_forth zero few = record { none = refl; back = refl }
key_forth (suc zero) few = record { none = refl; back = refl }
key_forth (suc (suc zero)) few = record { none = refl; back = refl }
key_forth (suc (suc (suc zero))) few = record { none = refl; back = refl }
key_forth (suc (suc (suc (suc n)))) few = absurd (omega arith)

-- a leaf of one of four parameters
abbrev pub HasFewPlaces : Leaf → Type 0
HasFewPlaces (leaf.Arg place) = place < 4
HasFewPlaces leaf.Time = Unit {0}
HasFewPlaces leaf.Replica = Unit {0}
HasFewPlaces leaf.Zero = Unit {0}
HasFewPlaces leaf.One = Unit {0}
HasFewPlaces (leaf.Pos place) = place < 4
HasFewPlaces (leaf.Neg place) = place < 4
HasFewPlaces leaf.False = Unit {0}
HasFewPlaces leaf.True = Unit {0}

argument_forth : (place : ℕ) → place < 4 → GoesForth leaf_faults leaf_said leaf_data (leaf.Arg place)
unfolding digits
argument_forth zero few = record { none = refl; back = refl }
argument_forth (suc zero) few = record { none = refl; back = refl }
argument_forth (suc (suc zero)) few = record { none = refl; back = refl }
argument_forth (suc (suc (suc zero))) few = record { none = refl; back = refl }
argument_forth (suc (suc (suc (suc n)))) few = absurd (omega arith)

above_forth : (place : ℕ) → place < 4 → GoesForth leaf_faults leaf_said leaf_data (leaf.Pos place)
unfolding digits
above_forth zero few = record { none = refl; back = refl }
above_forth (suc zero) few = record { none = refl; back = refl }
above_forth (suc (suc zero)) few = record { none = refl; back = refl }
above_forth (suc (suc (suc zero))) few = record { none = refl; back = refl }
above_forth (suc (suc (suc (suc n)))) few = absurd (omega arith)

below_forth : (place : ℕ) → place < 4 → GoesForth leaf_faults leaf_said leaf_data (leaf.Neg place)
unfolding digits
below_forth zero few = record { none = refl; back = refl }
below_forth (suc zero) few = record { none = refl; back = refl }
below_forth (suc (suc zero)) few = record { none = refl; back = refl }
below_forth (suc (suc (suc zero))) few = record { none = refl; back = refl }
below_forth (suc (suc (suc (suc n)))) few = absurd (omega arith)

pub leaf_forth : (l : Leaf) → HasFewPlaces l → GoesForth leaf_faults leaf_said leaf_data l
leaf_forth (leaf.Arg place) few = argument_forth place few
leaf_forth leaf.Time few = record { none = refl; back = refl }
leaf_forth leaf.Replica few = record { none = refl; back = refl }
leaf_forth leaf.Zero few = record { none = refl; back = refl }
leaf_forth leaf.One few = record { none = refl; back = refl }
leaf_forth (leaf.Pos place) few = above_forth place few
leaf_forth (leaf.Neg place) few = below_forth place few
leaf_forth leaf.False few = record { none = refl; back = refl }
leaf_forth leaf.True few = record { none = refl; back = refl }

-- names and numbers
name_known : (text : List ℕ) → IsName text → is_name text ≡ true
name_known text is = and_true _ _ (le-leb (length text) _ is.short) is.each

pub named_known : (code : ℕ) → IsNameCode code → named (name_of_code code) ≡ Some (value.Name code)
named_known code is =
    let same : name_of_code code ≡ is.name = ap name_of_code (sym is.coded) ∙ name_of_code-code_of is.name is.is_name in
    let known : is_name (name_of_code code) ≡ true = ap is_name same ∙ name_known is.name is.is_name in
    let coded : code_of (name_of_code code) ≡ code = ap code_of same ∙ is.coded in
    rw (known, coded) refl

pub value_forth : (v : Value) → IsWritten v → GoesForth value_faults value_said value_data v
value_forth (value.Bool b) is = record { none = refl; back = refl }
value_forth (value.Num (pos n)) is = record { none = refl; back = refl }
value_forth (value.Num (negsuc n)) is = record { none = refl; back = refl }
value_forth (value.Name code) is = let known = named_known code is in record { none = rw known refl; back = rw known refl }

pub number_known : (n : ℕ) → n < 2 ^ 32 → number_of (natural n) ≡ Some n
number_known n small = let fits : nat_lt n (2 ^ 32) ≡ true = lt-ltb n (2 ^ 32) small in rw fits refl

pub number_forth : (n : ℕ) → n < 2 ^ 32 → GoesForth number_faults number_said natural n
number_forth n small = let known = number_known n small in record { none = ap (λ (o : Option ℕ). faults_unless o) known; back = ap (λ (o : Option ℕ). unwrap_or o 0) known }

-- effects: what is given isn't `null`
abbrev pub IsSomething : Data → Type 0
IsSomething null = ⊥
IsSomething (boolean b) = Unit {0}
IsSomething (number n) = Unit {0}
IsSomething (string s) = Unit {0}
IsSomething (array ds) = Unit {0}
IsSomething (object ms) = Unit {0}

something : {A : Type 0} (f : Data → List Path) (said : Data → A) (d : Data) → IsSomething d → (effect_faults f d ≡ f d) × (effect_said said d ≡ Some (said d))
something f said null is = absurd is
something f said (boolean b) is = (refl, refl)
something f said (number n) is = (refl, refl)
something f said (string s) is = (refl, refl)
something f said (array ds) is = (refl, refl)
something f said (object ms) is = (refl, refl)

pub none_forth : {A : Type 0} (f : Data → List Path) (said : Data → A) (print : A → Data) → GoesForth (effect_faults f) (effect_said said) (effect_data print) None
none_forth f said print = record { none = refl; back = refl }

pub some_forth : {A : Type 0} (f : Data → List Path) (said : Data → A) (print : A → Data) (x : A) → IsSomething (print x) → GoesForth f said print x
    → GoesForth (effect_faults f) (effect_said said) (effect_data print) (Some x)
some_forth f said print x is forth =
    let both = something f said (print x) is in record { none = both.0 ∙ forth.none; back = both.1 ∙ ap Some forth.back }

pub leaf_something : (l : Leaf) → IsSomething (leaf_data l)
leaf_something (leaf.Arg place) = tt
leaf_something leaf.Time = tt
leaf_something leaf.Replica = tt
leaf_something leaf.Zero = tt
leaf_something leaf.One = tt
leaf_something (leaf.Pos place) = tt
leaf_something (leaf.Neg place) = tt
leaf_something leaf.False = tt
leaf_something leaf.True = tt

pub keyed_forth : {A : Type 0} (f : Data → List Path) (said : Data → A) (print : A → Data) (e : ℕ × A) → e.0 < 4 → GoesForth f said print e.1 → GoesForth (pair_faults f) (pair_said said) (keyed_data print) e
keyed_forth f said print e few forth =
    let key = key_forth e.0 few in let g = key.none in let h = forth.none in
    record { none = rw (g, h) refl; back = ap₂ (λ x y. (x, y)) key.back forth.back }
