-- Used inside only.
-- Used by kat_sat and inside only: what is decided, the walk's answer and that of a further search.
use Rattle.std.specs.Prelude.{◌≢◌, ℕ, ◌*◌, ◌^◌, ◌<◌, ◌≤◌, length}
use Rattle.kat_form.specs.Encodings.{encoding}
use Rattle.kat_form.specs.declared.Encoded.{Encoded}
use Rattle.kat_refute.specs.Lines.{AreARefutation}
use Rattle.kat_cases.specs.Nodes.End.{spent, at_point, at_rows, at_wide}
use Rattle.kat_cases.specs.Walks.{Answer, IfRefuted}
use Rattle.kat_cases.specs.Walks.Answer.{refuted, stopped}
use Rattle.kat_cases.specs.Points.{IsDecisive, IfPoint}
use Rattle.kat_cases.specs.Settings.{setting_of}
use Rattle.kat_cases.specs.Decisions.{Decides, HasNarrowNumbers, IsFurther}

-- the walk refutes nothing and ends at no point
abbrev pub GivesUp : Answer → Type 0
GivesUp (refuted lines) = ⊥
GivesUp (stopped spent) = Unit {0}
GivesUp (stopped (at_point den nums truths)) = ⊥
GivesUp (stopped (at_rows lits plus minus rest)) = Unit {0}
GivesUp (stopped (at_wide lits left right)) = Unit {0}

-- what a further search finds: lines that refute the encoding, or a point that decides it
pub record IsFound (e : Encoded) (effort : ℕ) (answer : Answer) : Type 0 where
  pub further : IsFurther effort answer
  pub refutes : IfRefuted answer (AreARefutation (encoding e))
  pub point : IfPoint answer (IsDecisive (encoding e) e.numbers)

-- all that is said of a decision
pub record IsAnswered (e : Encoded) (effort : ℕ) (answer : Answer) : Type 0 where
  pub walk : Decides (setting_of e) effort answer
  pub refutes : IfRefuted answer (λ lines. AreARefutation (encoding e) lines × (length lines < 3 * effort))
  pub point : IfPoint answer (IsDecisive (encoding e) e.numbers)
  pub narrow : HasNarrowNumbers answer
  pub unspent : 2 ^ length (encoding e).senses ≤ effort → answer ≢ stopped spent
