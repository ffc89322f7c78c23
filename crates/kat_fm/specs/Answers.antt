-- Used inside only.
-- What the code's answer stands for, and what the given rows must be.
use Rattle.std.specs.Prelude.{ℕ, ◌<◌}
use Rattle.std.specs.List.{All}
use Rattle.kat_linear.specs.Rows.{Form, Term}
use Rattle.kat_fm.specs.declared.answer.Solved.{Solved}
use Rattle.kat_fm.specs.declared.answer.Solved.TheVariants.{Point, Multipliers, Rows, Wide}
use Rattle.kat_fm.specs.Eliminations.{Solution}
use Rattle.kat_fm.specs.Eliminations.Solution.{met_at, refuted_by, crowded, goes_wide}

abbrev pub solution_of : Solved → Solution
solution_of (Point den nums) = met_at den nums.items
solution_of (Multipliers ms) = refuted_by ms.items
solution_of (Rows plus minus rest) = crowded plus minus rest
solution_of (Wide left right) = goes_wide left right

-- the row's variables are below a number
abbrev pub HasVariablesBelow : ℕ → Form → Type 0
HasVariablesBelow vars form = All (λ (t : Term). t.0 < vars) form.terms
