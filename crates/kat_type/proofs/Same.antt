-- Operations that are found to be one are equal.
use Rattle.std.proofs.Common.{◌≡◌, ℕ, Bool, true, false, List, [], ◌∷◌, refl, ap}
use Rattle.std.specs.Prelude.{◌&&◌, ◌==◌}
use Rattle.std.proofs.lemmas.Bool.{eqb-true}
use Rattle.std.proofs.lemmas.Bool.Decides.{Decides-int_eq}
use Rattle.kat_num.specs.declared.values.Value.{Value}
use Rattle.kat_num.specs.declared.values.Value.TheVariants as value
use Rattle.kat_type.specs.Unions.{is_same, is_same_value, are_same_values}
use Rattle.kat_type.specs.declared.done.Done.{Done}

both : (a b : Bool) → (a && b) ≡ true → (a ≡ true) × (b ≡ true)
both true true e = (refl, refl)
both true false e = absurd cc
both false b e = absurd cc

same-value : (a b : Value) → is_same_value a b ≡ true → a ≡ b
same-value (value.Bool true) (value.Bool true) e = refl
same-value (value.Bool true) (value.Bool false) e = absurd cc
same-value (value.Bool false) (value.Bool true) e = absurd cc
same-value (value.Bool false) (value.Bool false) e = refl
same-value (value.Bool a) (value.Num n) e = absurd cc
same-value (value.Bool a) (value.Name n) e = absurd cc
same-value (value.Num a) (value.Bool b) e = absurd cc
same-value (value.Num a) (value.Num b) e = ap value.Num ((Decides-int_eq a b).0 e)
same-value (value.Num a) (value.Name b) e = absurd cc
same-value (value.Name a) (value.Bool b) e = absurd cc
same-value (value.Name a) (value.Num b) e = absurd cc
same-value (value.Name a) (value.Name b) e = ap value.Name (eqb-true a b e)

pub same-values : (args others : List Value) → are_same_values args others ≡ true → args ≡ others
same-values [] [] e = refl
same-values [] (b ∷ others) e = absurd cc
same-values (a ∷ args) [] e = absurd cc
same-values (a ∷ args) (b ∷ others) e =
    let h = both (is_same_value a b) (are_same_values args others) e in
    let x : a ≡ b = same-value a b h.0 in
    let xs : args ≡ others = same-values args others h.1 in
    cc

abbrev made : ℕ → ℕ → ℕ → List Value → Done
made replica time op args = record { replica = replica; time = time; op = op; args = args }

same_parts : (r s t u o p : ℕ) (xs ys : List Value) → r ≡ s → t ≡ u → o ≡ p → xs ≡ ys → made r t o xs ≡ made s u p ys
same_parts r s t u o p xs ys a b c d = cc

pub same-done : (one other : Done) → is_same one other ≡ true → one ≡ other
same-done one other e =
    let h = both ((one.replica == other.replica) && (one.time == other.time) && (one.op == other.op)) (are_same_values one.args other.args) e in
    let k = both ((one.replica == other.replica) && (one.time == other.time)) (one.op == other.op) h.0 in
    let l = both (one.replica == other.replica) (one.time == other.time) k.0 in
    let r : one.replica ≡ other.replica = eqb-true one.replica other.replica l.0 in
    let t : one.time ≡ other.time = eqb-true one.time other.time l.1 in
    let o : one.op ≡ other.op = eqb-true one.op other.op k.1 in
    let a : one.args ≡ other.args = same-values one.args other.args h.1 in
    same_parts one.replica other.replica one.time other.time one.op other.op one.args other.args r t o a
