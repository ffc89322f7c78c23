-- Used inside only.
-- Both statements of the walk are one.
use Rattle.std.specs.Prelude.{◌≡◌, ℕ}
use Rattle.kat_linear.specs.Widths.{widths}
use Rattle.kat_form.specs.Encodings.{Encoding}
use Rattle.kat_fm.specs.Eliminations.{elim_of}
use Rattle.kat_cases.specs.Nodes.{Setting}
use Rattle.kat_cases.specs.Nodes as nodes
use Rattle.kat_cases.specs.Nodes.End.{spent, at_point, at_rows, at_wide}
use Rattle.kat_cases.specs.Walks.{WalkGives}
use Rattle.kat_cases.specs.Walks.Answer.{stopped}
use Rattle.kat_walks.specs.Walks.{End, EndsIn}
use Rattle.kat_walks.specs.Walks.End.{used_up, met_point, too_many, too_wide}

-- the setting of an encoding with this many number variables
abbrev pub setting_in : Encoding → ℕ → Setting
setting_in e numbers = record { encoding = e; solve = λ forms. elim_of forms numbers; wide = λ forms ms. widths forms ms }

-- an end without its point
abbrev pub plain_end : nodes.End → End
plain_end spent = used_up
plain_end (at_point den nums truths) = met_point
plain_end (at_rows lits plus minus rest) = too_many lits plus minus rest
plain_end (at_wide lits left right) = too_wide lits left right

-- an end of the walk
pub record GivesEnd (e : Encoding) (numbers effort : ℕ) (plain : End) : Type 0 where
  pub end : nodes.End
  pub same : plain_end end ≡ plain
  pub gives : WalkGives (setting_in e numbers) effort (stopped end)

abbrev pub EndsAreEnds : Type 0
EndsAreEnds = (e : Encoding) (numbers effort : ℕ) (end : nodes.End) → WalkGives (setting_in e numbers) effort (stopped end) → EndsIn e numbers effort (plain_end end)

abbrev pub EndsAreGiven : Type 0
EndsAreGiven = (e : Encoding) (numbers effort : ℕ) (end : End) → EndsIn e numbers effort end → GivesEnd e numbers effort end
