-- Used inside only.
-- Used by kat_node: texts that grow.
use Rattle.std.specs.Prelude.{◌≡◌, ℕ, ◌==◌, List, [], ◌∷◌, ◌++◌, if◌then◌else◌}

-- new begins with old
abbrev pub Grows : List ℕ → List ℕ → Type 0
Grows old new = (more : List ℕ) × (new ≡ old ++ more)

-- the comma before an element, but not before the first
abbrev pub comma_before : ℕ → List ℕ
comma_before place = if place == 0 then [] else 44 ∷ []
