-- The checkpoints of the replicas.
use Rattle.std.proofs.Common.{◌≡◌, ℕ, zero, suc, List, [], ◌∷◌, Option, None, Some, set, replicate, sym, subst}
use Rattle.std.specs.Prelude.{All}
use Rattle.std.specs.List.{slice_index_or}
use Rattle.std.specs.Option.{IfSome}
use Rattle.std.proofs.lemmas.List.Elements.{All-cons, All-head, All-nil, All-set, All-tail}
use Rattle.kat_type.specs.Types.{TypeForm}
use Rattle.kat_type.specs.declared.done.Done.{Done}
use Rattle.kat_world.specs.Checkpoints.{AreReached, IsReached}
use Rattle.kat_world.specs.declared.checkpoints.Checkpoint.{Checkpoint}

-- there is none yet
pub none_reached : (ty : TypeForm) (order : List Done) (n : ℕ) (points : List (Option Checkpoint)) → points ≡ replicate n None → AreReached ty order points
none_reached ty order n points is = subst (λ (ps : List (Option Checkpoint)). AreReached ty order ps) (sym is) (none n) where
  none : (n : ℕ) → AreReached ty order (replicate n None)
  none zero = All-nil (λ (point : Option Checkpoint). IfSome point (IsReached ty order))
  none (suc n) = All-cons (λ (point : Option Checkpoint). IfSome point (IsReached ty order)) None (replicate n None) tt (none n)

-- one of them
pub reached_at : (ty : TypeForm) (order : List Done) (points : List (Option Checkpoint)) (place : ℕ) → AreReached ty order points
    → IfSome (slice_index_or points place None) (IsReached ty order)
reached_at ty order [] place all = tt
reached_at ty order (point ∷ points) zero all = All-head (λ (p : Option Checkpoint). IfSome p (IsReached ty order)) point points all
reached_at ty order (point ∷ points) (suc place) all =
    reached_at ty order points place (All-tail (λ (p : Option Checkpoint). IfSome p (IsReached ty order)) point points all)

-- one is taken out and another put in its place
pub reached_with : (ty : TypeForm) (order : List Done) (old mid new : List (Option Checkpoint)) (place : ℕ) (point : Checkpoint) → AreReached ty order old
    → mid ≡ set old place None → new ≡ set mid place (Some point) → IsReached ty order point → AreReached ty order new
reached_with ty order old mid new place point all out back is =
    let P : Option Checkpoint → Type 0 = λ p. IfSome p (IsReached ty order) in
    subst (All P) (sym back) (All-set P mid place (Some point) is (subst (All P) (sym out) (All-set P old place None tt all)))
