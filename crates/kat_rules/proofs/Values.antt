-- Values, and their places among the constants of a type.
use Rattle.std.proofs.Common.{◌≡◌, ℕ, zero, suc, ◌+◌, ◌<◌, inl, inr, Bool, true, false, List, [], ◌∷◌, length, refl, sym, ◌∙◌, ap, arith, ℤ, if◌then◌else◌}
use Rattle.std.specs.Prelude.{◌==◌, not}
use Rattle.std.specs.List.{range_with_len}
use Rattle.std.specs.Ordering.{int_eq}
use Rattle.std.proofs.lemmas.Grind.{common_steps}
use Rattle.std.proofs.lemmas.Int.{ints}
use Rattle.kat_num.specs.declared.values.Value.{Value}
use Rattle.kat_num.specs.declared.values.Value.TheVariants as value
use Rattle.kat_walk.specs.Machines.{IsOneOf}
use Rattle.kat_rules.specs.Constants.{is_same_value, place_of, value_at}
use Rattle.std.proofs.lemmas.Bool.{eqb-true}

-- numbers
pub one_counted : (i n k j : ℕ) → j ≡ i + k → k < n → IsOneOf j (range_with_len i n)
one_counted i zero k j e h = absurd (omega (arith, h))
one_counted i (suc n) zero j e h = inl (omega (arith, e))
one_counted i (suc n) (suc k) j e h = inr (one_counted (i + 1) n k j (omega (arith, e)) (omega (arith, h)))

-- constants
int_itself : (z : ℤ) → int_eq z z ≡ true
int_itself z = grind (arith, common_steps, ints)

nat_itself : (n : ℕ) → n == n ≡ true
nat_itself n = grind (arith, common_steps)

pub value_itself : (v : Value) → is_same_value v v ≡ true
value_itself (value.Bool true) = refl
value_itself (value.Bool false) = refl
value_itself (value.Num z) = int_itself z
value_itself (value.Name code) = nat_itself code

place_next : (b : Bool) (n m : ℕ) → n < m → (if b then 0 else suc n) < suc m
place_next true n m h = omega arith
place_next false n m h = omega (arith, h)

pub place_inside : (v : Value) (vs : List Value) → IsOneOf v vs → place_of v vs < length vs
place_inside v [] h = absurd h
place_inside v (u ∷ us) (inl e) =
    let same : is_same_value u v ≡ true = ap (λ (x : Value). is_same_value x v) (sym e) ∙ value_itself v in
    rw same (omega arith)
place_inside v (u ∷ us) (inr h) = place_next (is_same_value u v) (place_of v us) (length us) (place_inside v us h)

-- values
same_bool : (a b : Bool) → (if a then b else not b) ≡ true → a ≡ b
same_bool true true h = refl
same_bool true false h = absurd cc
same_bool false true h = absurd cc
same_bool false false h = refl

same_int : (a b : ℤ) → int_eq a b ≡ true → a ≡ b
same_int a b h = grind (arith, common_steps, ints)

pub same_value : (u v : Value) → is_same_value u v ≡ true → u ≡ v
same_value (value.Bool a) (value.Bool b) h = ap value.Bool (same_bool a b h)
same_value (value.Num a) (value.Num b) h = ap value.Num (same_int a b h)
same_value (value.Name a) (value.Name b) h = ap value.Name (eqb-true a b h)
same_value (value.Bool a) (value.Num b) h = absurd cc
same_value (value.Bool a) (value.Name b) h = absurd cc
same_value (value.Num a) (value.Bool b) h = absurd cc
same_value (value.Num a) (value.Name b) h = absurd cc
same_value (value.Name a) (value.Bool b) h = absurd cc
same_value (value.Name a) (value.Num b) h = absurd cc

found_value : (v u : Value) (us : List Value) (b : Bool) → is_same_value u v ≡ b → IsOneOf v (u ∷ us) → (IsOneOf v us → value_at us (place_of v us) ≡ v) → value_at (u ∷ us) (if b then 0 else suc (place_of v us)) ≡ v
found_value v u us true e h more = same_value u v e
found_value v u us false e (inl i) more = absurd (other_value u v e i)
  where
    other_value : (u v : Value) → is_same_value u v ≡ false → v ≡ u → ⊥
    other_value u v e i = let s : is_same_value u v ≡ true = ap (λ (x : Value). is_same_value x v) (sym i) ∙ value_itself v in absurd cc
found_value v u us false e (inr h) more = more h

pub place_value : (v : Value) (vs : List Value) → IsOneOf v vs → value_at vs (place_of v vs) ≡ v
place_value v [] h = absurd h
place_value v (u ∷ us) h = found_value v u us (is_same_value u v) refl h (λ i. place_value v us i)
