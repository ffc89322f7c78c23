-- Bounds with a further position.
use Rattle.std.proofs.Common.{◌≡◌, ℕ, ◌-◌, ◌≤◌, List, [], ◌∷◌, ◌++◌, length, drop, take, Result, Ok, Err, IfOk, ap, ◌∙◌, arith}
use Rattle.std.proofs.lemmas.List.{take_rest}
use Rattle.kat_candidate.specs.Forms.{SidesForm, bound_of, bounds_of, each_of}
use Rattle.kat_relation.specs.declared.relations.Conjunct.{Conjunct}
use Rattle.kat_relation.specs.declared.relations.LeafRef.{LeafRef}

bounds_more : (sides : SidesForm) (leaves : List LeafRef) (numbers positions : List ℕ) (refs : List LeafRef) → 1 ≤ length positions
    → each_of (bound_of sides leaves (bounds_of sides leaves numbers (take (length positions - 1) (drop 1 positions))) refs) numbers ≡ bounds_of sides leaves numbers positions refs
bounds_more sides leaves numbers [] refs h = absurd (omega (arith, h))
bounds_more sides leaves numbers (p ∷ ps) refs h = ap (λ (qs : List ℕ). each_of (bound_of sides leaves (bounds_of sides leaves numbers qs) refs) numbers) (take_rest (p ∷ ps) 1)

pub bounds_pushed : {E : Type 0} (result : Result (Unit {0}) E) (sides : SidesForm) (leaves : List LeafRef) (numbers positions : List ℕ) (refs : List LeafRef) (old new : List Conjunct) → 1 ≤ length positions
    → IfOk result (λ u. new ≡ old ++ each_of (bound_of sides leaves (bounds_of sides leaves numbers (take (length positions - 1) (drop 1 positions))) refs) numbers)
    → IfOk result (λ u. new ≡ old ++ bounds_of sides leaves numbers positions refs)
bounds_pushed (Ok u) sides leaves numbers positions refs old new some h = h ∙ ap (λ xs. old ++ xs) (bounds_more sides leaves numbers positions refs some)
bounds_pushed (Err e) sides leaves numbers positions refs old new some h = tt
