-- An element of lists that are appended to one another.
use Rattle.std.proofs.Common.{◌≡◌, ℕ, zero, suc, ◌-◌, ◌<◌, ◌≤◌, inl, inr, List, [], ◌∷◌, ◌++◌, length, take, arith, refl, ◌∙◌, ap, Some}
use Rattle.std.specs.Prelude.{slice_get}
use Rattle.kat_type.specs.Lists.{Has}

pub get_here : {X : Type 0} (xs ys : List X) (i : ℕ) → i < length xs → slice_get (xs ++ ys) i ≡ slice_get xs i
get_here [] ys i lt = absurd (none i lt) where
  none : (k : ℕ) → k < 0 → ⊥
  none k h = omega (arith, h)
get_here (x ∷ xs) ys zero lt = refl
get_here (x ∷ xs) ys (suc i) lt = get_here xs ys i (omega (arith, lt))

pub get_behind : {X : Type 0} (xs ys : List X) (i : ℕ) → length xs ≤ i → slice_get (xs ++ ys) i ≡ slice_get ys (i - length xs)
get_behind [] ys i le = ap (slice_get ys) (omega arith)
get_behind (x ∷ xs) ys zero le = absurd (none (length xs) le) where
  none : (k : ℕ) → suc k ≤ 0 → ⊥
  none k h = omega (arith, h)
get_behind (x ∷ xs) ys (suc i) le = get_behind xs ys i (omega (arith, le)) ∙ ap (slice_get ys) (omega arith)

pub get_taken : {X : Type 0} (most : ℕ) (xs : List X) (i : ℕ) → i < most → slice_get (take most xs) i ≡ slice_get xs i
get_taken zero xs i lt = absurd (none i lt) where
  none : (k : ℕ) → k < 0 → ⊥
  none k h = omega (arith, h)
get_taken (suc most) [] i lt = refl
get_taken (suc most) (x ∷ xs) zero lt = refl
get_taken (suc most) (x ∷ xs) (suc i) lt = get_taken most xs i (omega (arith, lt))

-- members
pub get_has : {X : Type 0} (xs : List X) (i : ℕ) (x : X) → slice_get xs i ≡ Some x → Has xs x
get_has [] i x e = absurd (cc e)
get_has (y ∷ xs) zero x e = inl (some_same e) where
  some_same : {Z : Type 0} {a b : Z} → Some a ≡ Some b → a ≡ b
  some_same h = cc h
get_has (y ∷ xs) (suc i) x e = inr (get_has xs i x e)

pub taken_has : {X : Type 0} (most : ℕ) (xs : List X) (x : X) → Has (take most xs) x → Has xs x
taken_has zero xs x h = absurd h
taken_has (suc most) [] x h = absurd h
taken_has (suc most) (y ∷ xs) x (inl e) = inl e
taken_has (suc most) (y ∷ xs) x (inr h) = inr (taken_has most xs x h)
