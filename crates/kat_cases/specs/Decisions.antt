-- Used inside only.
-- What may be decided: what the walk gives, or, if the walk gives up, what a further search finds.
use Rattle.std.specs.Prelude.{◌≡◌, ◌≢◌, ℕ, ◌≤◌, ◌⊎◌, ℤ, unsigned_abs, List, length}
use Rattle.std.specs.List.{All, AllPairs}
use Rattle.kat_linear.specs.Sums.{IsNarrow}
use Rattle.kat_refute.specs.Lines.{Line, literals_of}
use Rattle.kat_refute.specs.Lines.Line.{rup, linear, hinted}
use Rattle.kat_cases.specs.Nodes.{Setting}
use Rattle.kat_cases.specs.Nodes.End.{spent, at_point, at_rows, at_wide}
use Rattle.kat_cases.specs.Walks.{Answer, WalkGives}
use Rattle.kat_cases.specs.Walks.Answer.{refuted, stopped}

-- no variable occurs twice in a line
abbrev pub HasEachOnce : Line → Type 0
HasEachOnce line = AllPairs (λ (k l : ℤ). unsigned_abs k ≢ unsigned_abs l) (literals_of line)

-- a line without hints
abbrev pub HasNoHints : Line → Type 0
HasNoHints (rup literals) = Unit {0}
HasNoHints (linear literals multipliers) = Unit {0}
HasNoHints (hinted literals hints) = ⊥

-- what a further search may find: at most as many lines as the walk had leaves, in which no variable occurs twice and without hints, or
-- a point
abbrev pub IsFurther : ℕ → Answer → Type 0
IsFurther effort (refuted lines) = (length lines ≤ effort) × All HasEachOnce lines × All HasNoHints lines
IsFurther effort (stopped spent) = ⊥
IsFurther effort (stopped (at_point den nums truths)) = Unit {0}
IsFurther effort (stopped (at_rows lits plus minus rest)) = ⊥
IsFurther effort (stopped (at_wide lits left right)) = ⊥

-- What is decided, by what the walk gives: if it refutes, its lines; if it ends at a point, that point; if its leaves are
-- used up or elimination gives up, the same, with the same literals and numbers, or what a further search finds.
abbrev pub IsDecision : ℕ → Answer → Answer → Type 0
IsDecision effort (refuted lines) answer = answer ≡ refuted lines
IsDecision effort (stopped spent) answer = (answer ≡ stopped spent) ⊎ IsFurther effort answer
IsDecision effort (stopped (at_point den nums truths)) answer = answer ≡ stopped (at_point den nums truths)
IsDecision effort (stopped (at_rows lits plus minus rest)) answer = (answer ≡ stopped (at_rows lits plus minus rest)) ⊎ IsFurther effort answer
IsDecision effort (stopped (at_wide lits left right)) answer = (answer ≡ stopped (at_wide lits left right)) ⊎ IsFurther effort answer

pub record Decides (s : Setting) (effort : ℕ) (answer : Answer) : Type 0 where
  pub walk : Answer
  pub gives : WalkGives s effort walk
  pub follows : IsDecision effort walk answer

-- Lines that are decided: if the walk refutes, they are the walk's, and otherwise those of a further search. None has hints.
pub record AreLinesFor (s : Setting) (effort : ℕ) (lines : List Line) : Type 0 where
  pub of_walk : (walked : List Line) → WalkGives s effort (refuted walked) → lines ≡ walked
  pub further : ((walked : List Line) → WalkGives s effort (refuted walked) → ⊥) → (length lines ≤ effort) × All HasEachOnce lines
  pub no_hints : All HasNoHints lines

-- if elimination comes to too great numbers, the two whose product or sum is too great are at most 2^126 themselves
abbrev pub HasNarrowNumbers : Answer → Type 0
HasNarrowNumbers (refuted lines) = Unit {0}
HasNarrowNumbers (stopped spent) = Unit {0}
HasNarrowNumbers (stopped (at_point den nums truths)) = Unit {0}
HasNarrowNumbers (stopped (at_rows lits plus minus rest)) = Unit {0}
HasNarrowNumbers (stopped (at_wide lits left right)) = IsNarrow left × IsNarrow right
