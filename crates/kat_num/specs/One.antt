-- Used inside only.
-- The word for every reader's answer.
use Rattle.std.specs.Prelude.{◌≡◌, Option}
use Rattle.std.specs.Prelude.{Some, None}

-- the answer is the only value of which the fact holds, or none if it holds of no value
abbrev pub IsTheOne : {X : Type 0} → (X → Type 0) → Option X → Type 0
IsTheOne {X} Fact None = (x : X) → Fact x → ⊥
IsTheOne {X} Fact (Some value) = Fact value × ((x : X) → Fact x → x ≡ value)
