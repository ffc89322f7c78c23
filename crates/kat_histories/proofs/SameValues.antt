-- Values that are the same, by a test of them.
use Rattle.std.proofs.Common.{◌≡◌, ◌≢◌, Bool, true, false, List, [], ◌∷◌, refl, sym, ◌∙◌, ap}
use Rattle.std.specs.Prelude.{not}
use Rattle.std.specs.Bool.{Decides}
use Rattle.kat_num.specs.declared.values.Value.{Value}
use Rattle.kat_expr.specs.Slots.{absent}
use Rattle.kat_type.specs.Unions.{is_same_value}
use Rattle.kat_type.proofs.Same.{same-values}
use Rattle.kat_type.proofs.Unions.{values_itself}
use Rattle.kat_histories.proofs.Tests.{both_true, true_both}

-- a test that passes and doesn't
pub clash : (b : Bool) → b ≡ true → b ≡ false → ⊥
clash true e h = cc h
clash false e h = cc e

abbrev head_of : List Value → Value
head_of [] = absent
head_of (v ∷ vs) = v

pub value_same : (a b : Value) → is_same_value a b ≡ true → a ≡ b
value_same a b e = ap head_of (same-values (a ∷ []) (b ∷ []) (true_both (is_same_value a b) true e refl))

pub value_itself : (a : Value) → is_same_value a a ≡ true
value_itself a = (both_true (is_same_value a a) true (values_itself (a ∷ []))).0

-- two values that aren't the same
pub other_values : (a b : Value) → Decides (not (is_same_value a b)) (b ≢ a)
other_values a b = (
  λ e i. clash (is_same_value a b) e (ap (is_same_value a) i ∙ value_itself a),
  λ n. cases (is_same_value a b) refl n,
) where
  clash : (t : Bool) → not t ≡ true → t ≡ true → ⊥
  clash true e h = absurd (cc e)
  clash false e h = absurd (cc h)

  cases : (t : Bool) → is_same_value a b ≡ t → (b ≢ a) → not t ≡ true
  cases true is n = absurd (n (sym (value_same a b is)))
  cases false is n = refl
