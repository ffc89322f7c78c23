-- A list that isn't below another keeps its tie.
use Rattle.std.proofs.Common.{◌≡◌, inl, inr, Bool, true, false, List, [], ◌∷◌, refl, None, Some, if◌then◌else◌}
use Rattle.kat_walk.specs.Machines.{IsLess}
use Rattle.kat_walk.specs.Ties.{KeepsTie}

-- the test agrees with the order
pub record IsOrder {T : Type 0} (less : T → T → Type 0) (at_least : T → T → Bool) : Type 0 where
  pub above : (t u : T) → at_least t u ≡ false → less t u
  pub same : (t u : T) → at_least t u ≡ true → at_least u t ≡ true → t ≡ u

pub free_keeps : {T : Type 0} (at_least : T → T → Bool) (w : List T) → KeepsTie at_least None w
free_keeps at_least [] = tt
free_keeps at_least (t ∷ w) = (refl, free_keeps at_least w)

spent_keeps : {T : Type 0} (at_least : T → T → Bool) (w : List T) → KeepsTie at_least (Some []) w
spent_keeps at_least [] = tt
spent_keeps at_least (t ∷ w) = (refl, free_keeps at_least w)

pub head_keeps : {T : Type 0} (less : T → T → Type 0) (at_least : T → T → Bool) → IsOrder less at_least → (t u : T) (us w : List T) (b : Bool)
    → (IsLess less (t ∷ w) (u ∷ us) → ⊥) → at_least t u ≡ b → at_least t u ≡ true
head_keeps less at_least o t u us w true h e = e
head_keeps less at_least o t u us w false h e = absurd (h (inl (o.above t u e)))

next_keeps : {T : Type 0} (less : T → T → Type 0) (at_least : T → T → Bool) → IsOrder less at_least → (t u : T) (us w : List T) (b : Bool)
    → (IsLess less (t ∷ w) (u ∷ us) → ⊥) → at_least t u ≡ true → at_least u t ≡ b → ((IsLess less w us → ⊥) → KeepsTie at_least (Some us) w)
    → KeepsTie at_least (if at_least u t then Some us else None) w
next_keeps less at_least o t u us w true h k e more = rw e (more (λ l. h (inr (o.same t u k e, l))))
next_keeps less at_least o t u us w false h k e more = rw e (free_keeps at_least w)

pub tie_kept : {T : Type 0} (less : T → T → Type 0) (at_least : T → T → Bool) → IsOrder less at_least → (us w : List T) → (IsLess less w us → ⊥) → KeepsTie at_least (Some us) w
tie_kept less at_least o us [] h = tt
tie_kept less at_least o [] (t ∷ w) h = spent_keeps at_least (t ∷ w)
tie_kept less at_least o (u ∷ us) (t ∷ w) h =
    let k = head_keeps less at_least o t u us w (at_least t u) h refl in
    (k, next_keeps less at_least o t u us w (at_least u t) h k refl (λ g. tie_kept less at_least o us w g))
