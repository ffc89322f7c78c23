-- Used inside only.
-- What is always so of a search between two turns.
use Rattle.std.specs.Prelude.{◌≡◌, ℕ, ◌<◌, ℤ, neg_ℤ, List, [], length, slice_index_or}
use Rattle.std.specs.List.{Contains}
use Rattle.kat_clause.specs.declared.finding.Step.{Step}
use Rattle.kat_clause.specs.declared.finding.Walk.{Walk}
use Rattle.kat_clause.specs.Clauses.{opposites}
use Rattle.kat_clause.specs.Literals.{code_of}
use Rattle.kat_clause.specs.Choices.{Chooses}
use Rattle.kat_clause.specs.Findings.{IsWalk, AreNoticed, restored, AreSteps}

-- The set has the opposites of the line's literals, and whatever hints are found from here on, the steps before them are
-- found before them.
pub record Goes (clauses : List (List ℤ)) (line : List ℤ) (size : ℕ) (steps : List Step) (walk : Walk) : Type 0 where
  pub marks : length walk.set.marks.items ≡ size
  pub is_walk : IsWalk clauses walk
  pub noticed : AreNoticed clauses [] walk
  pub starts : (k : ℤ) → Contains (opposites line) k → Contains walk.set.trail.items k
  pub are_steps : AreSteps (length clauses) steps
  pub below : (i : ℕ) (d : Step) → i < length steps → code_of (neg_ℤ ((slice_index_or steps i d).literal)) < size
  pub goes_on : (later : List ℕ) → Chooses clauses walk.set.trail.items later → Chooses clauses (opposites line) (restored clauses steps later)
