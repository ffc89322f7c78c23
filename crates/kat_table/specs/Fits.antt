-- Used inside only.
-- When a text that came is as a row wants it.
use Rattle.std.specs.Prelude.{◌≡◌, ℕ, true, eqb, List, drop}
use Rattle.std.specs.List.{starts_with, ends_with}
use Rattle.kat_table.specs.declared.answers.Part.{Part}
use Rattle.kat_table.specs.declared.answers.Part.TheVariants.{Whole, Front, End, Inside}

-- the other text contains this one
abbrev pub StandsIn : List ℕ → List ℕ → Type 0
StandsIn wanted came = (at : ℕ) × (starts_with eqb (drop at came) wanted ≡ true)

-- what came is the wanted text, or begins with it, ends with it or has it inside
abbrev pub Fits : Part → List ℕ → List ℕ → Type 0
Fits Whole wanted came = came ≡ wanted
Fits Front wanted came = starts_with eqb came wanted ≡ true
Fits End wanted came = ends_with eqb came wanted ≡ true
Fits Inside wanted came = StandsIn wanted came
