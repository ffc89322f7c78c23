-- The first place of a list at which a fact holds.
use Rattle.std.specs.Prelude.{◌≡◌, ℕ, ◌<◌, List, Option, None, Some, slice_get}

-- the place is the least one of whose element the fact holds, or there is none if it holds of no element
abbrev pub IsFirstPlace : {X : Type 0} → (X → Type 0) → List X → Option ℕ → Type 0
IsFirstPlace {X} Fact xs None = (i : ℕ) (x : X) → slice_get xs i ≡ Some x → Fact x → ⊥
IsFirstPlace {X} Fact xs (Some first) =
    ((x : X) × (slice_get xs first ≡ Some x) × Fact x) × ((i : ℕ) (x : X) → i < first → slice_get xs i ≡ Some x → Fact x → ⊥)
