-- Lists as sets.
use Rattle.std.proofs.Common.{◌≡◌, ℕ, zero, suc, ◌⊎◌, inl, inr, ⊎_elim, List, [], ◌∷◌, ◌++◌, get_or, set, refl, sym, subst}
use Rattle.kat_type.specs.Lists.{Has, IsOnce}

pub has_front : {X : Type 0} (xs ys : List X) (x : X) → Has xs x → Has (xs ++ ys) x
has_front [] ys x h = absurd h
has_front (z ∷ xs) ys x (inl e) = inl e
has_front (z ∷ xs) ys x (inr h) = inr (has_front xs ys x h)

pub has_behind : {X : Type 0} (xs ys : List X) (x : X) → Has ys x → Has (xs ++ ys) x
has_behind [] ys x h = h
has_behind (z ∷ xs) ys x h = inr (has_behind xs ys x h)

pub has_either : {X : Type 0} (xs ys : List X) (x : X) → Has (xs ++ ys) x → Has xs x ⊎ Has ys x
has_either [] ys x h = inr h
has_either (z ∷ xs) ys x (inl e) = inl (inl e)
has_either (z ∷ xs) ys x (inr h) = ⊎_elim (λ k. inl (inr k)) (λ k. inr k) (has_either xs ys x h)

pub has_last : {X : Type 0} (xs : List X) (x : X) → Has (xs ++ x ∷ []) x
has_last xs x = has_behind xs (x ∷ []) x (inl refl)

pub either_last : {X : Type 0} (xs : List X) (y x : X) → Has (xs ++ y ∷ []) x → Has xs x ⊎ (y ≡ x)
either_last xs y x h = ⊎_elim (λ k. inl k) (λ k. ⊎_elim (λ e. inr e) (λ n. absurd n) k) (has_either xs (y ∷ []) x h)

-- lists that share nothing, one after the other
pub once_append : {X : Type 0} (xs ys : List X) → IsOnce xs → IsOnce ys → ((x : X) → Has xs x → Has ys x → ⊥) → IsOnce (xs ++ ys)
once_append [] ys h k apart = k
once_append (z ∷ xs) ys h k apart = (
  λ has. ⊎_elim (λ i. h.0 i) (λ i. apart z (inl refl) i) (has_either xs ys z has),
  once_append xs ys h.1 k (λ x i j. apart x (inr i) j),
)

pub once_last : {X : Type 0} (xs : List X) (x : X) → IsOnce xs → (Has xs x → ⊥) → IsOnce (xs ++ x ∷ [])
once_last {X} xs x h new = once_append xs (x ∷ []) h (λ n. n, tt) (λ y i j. ⊎_elim (λ (e : x ≡ y). new (subst (λ z. Has xs z) (sym e) i)) (λ n. n) j)

-- what holds at each place, and of x, holds at each place once x was put in
pub set_all : {X : Type 0} (P : X → Type 0) (xs : List X) (i : ℕ) (x d : X) → ((k : ℕ) → P (get_or xs k d)) → P x → (k : ℕ) → P (get_or (set xs i x) k d)
set_all P [] i x d h p k = h k
set_all P (y ∷ xs) zero x d h p zero = p
set_all P (y ∷ xs) zero x d h p (suc k) = h (suc k)
set_all P (y ∷ xs) (suc i) x d h p zero = h zero
set_all P (y ∷ xs) (suc i) x d h p (suc k) = set_all P xs i x d (λ j. h (suc j)) p k

pub snoc_all : {X : Type 0} (P : X → Type 0) (xs : List X) (x d : X) → ((k : ℕ) → P (get_or xs k d)) → P x → (k : ℕ) → P (get_or (xs ++ x ∷ []) k d)
snoc_all P [] x d h p zero = p
snoc_all P [] x d h p (suc k) = h zero
snoc_all P (y ∷ xs) x d h p zero = h zero
snoc_all P (y ∷ xs) x d h p (suc k) = snoc_all P xs x d (λ j. h (suc j)) p k
