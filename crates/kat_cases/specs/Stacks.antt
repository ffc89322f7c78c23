-- Used inside only.
-- Used by kat_sat and inside only: the state of a walk, as its code keeps it.
use Rattle.std.specs.Prelude.{◌≡◌, ℕ, ◌^◌, ℤ, neg_ℤ, List, [], ◌∷◌, ◌++◌, length, map, reverse, Bool, true, false, Option, Some, None, option_map, Vec}
use Rattle.std.specs.Global.{Global}
use Rattle.kat_clause.specs.Known.{Known, AreUpTo}
use Rattle.kat_clause.specs.Clauses.{AreAmong}
use Rattle.kat_form.specs.Encodings.{Encoding}
use Rattle.kat_refute.specs.Lines.{Line, line_of, denial_forms}
use Rattle.kat_fm.specs.Eliminations.Solution.{met_at}
use Rattle.kat_linear.specs.Rows.{Form}
use Rattle.kat_cases.specs.declared.decision.Ending.{Ending}
use Rattle.kat_cases.specs.declared.decision.Ending.TheVariants.{Spent, Point as AtPoint, Rows, Wide}
use Rattle.kat_cases.specs.declared.judging.Judged.{Judged}
use Rattle.kat_cases.specs.declared.judging.Kept.{Kept}
use Rattle.kat_cases.specs.declared.judging.Judged.TheVariants.{Leaf, Ends, Splits}
use Rattle.kat_cases.specs.declared.stack.Branch.{Branch}
use Rattle.kat_cases.specs.declared.stack.Branch.TheVariants.{First, Second}
use Rattle.kat_cases.specs.Nodes.{Setting, End, Judgement, IsJudged}
use Rattle.kat_cases.specs.Nodes.End.{spent, at_point, at_rows, at_wide}
use Rattle.kat_cases.specs.Nodes.Judgement.{leaf, ends, splits}
use Rattle.kat_cases.specs.Walks.{Walks, WalkGives, has_literal}
use Rattle.kat_cases.specs.Walks.Answer.{refuted}
use Rattle.kat_cases.specs.Walks.Outcome.{core}

abbrev pub end_of : Ending → End
end_of Spent = spent
end_of (AtPoint point) = at_point point.den point.nums.items point.truths.items
end_of (Rows lits plus minus rest) = at_rows lits.items plus minus rest
end_of (Wide lits left right) = at_wide lits.items left right

abbrev pub judgement_of : Judged → Judgement
judgement_of (Leaf line) = leaf (option_map line_of line)
judgement_of (Ends end) = ends (end_of end)
judgement_of (Splits l) = splits l

-- elimination gives this point for the rows of these literals
abbrev pub GivesPoint : Setting → List ℤ → ℤ → List ℤ → Type 0
GivesPoint s lits den nums = (forms : List Form) → denial_forms s.encoding.senses (map neg_ℤ lits) ≡ Some forms → s.solve forms ≡ met_at den nums

-- a point that is kept is one that elimination gives
abbrev pub Recalls : Setting → Option Kept → Type 0
Recalls s None = Unit {0}
Recalls s (Some kept) = GivesPoint s kept.literals.items kept.den kept.nums.items

-- a branch that is being walked: the first of a split, or the second, with the core of the first
pub data Step : Type 0 where
  first_of : ℤ → Step
  second_of : ℤ → List ℤ → Step

abbrev pub step_of : Branch → Step
step_of (First literal) = first_of literal
step_of (Second literal first) = second_of literal first.items

abbrev pub literal_of : Step → ℤ
literal_of (first_of literal) = literal
literal_of (second_of literal first) = literal

-- the path that the branches make, the last branch first
abbrev pub path_of : List Step → List ℤ
path_of steps = map literal_of steps

-- the branches that are being walked, the last first; the lines recorded so far; and the leaves left
pub record Progress : Type 0 where
  pub steps : List Step
  pub lines : List Line
  pub left : ℕ

-- The split above a second branch: its literal, and its first branch with the lines recorded before it and at it.
pub record Turned (s : Setting) (path : List ℤ) (literal : ℤ) (first : List ℤ) (left : ℕ) (lines : List Line) (before : ℕ) (front : List Line) : Type 0 where
  pub split : ℤ
  pub opposite : literal ≡ neg_ℤ split
  pub more : List Line
  pub recorded : lines ≡ front ++ more
  pub judged : IsJudged s path (splits split)
  pub walked : Walks s (split ∷ path) before (core first more left)
  pub used : has_literal split first ≡ true

-- Each branch is one that the walk of the first node takes, and at the last one so many leaves are left and these lines were
-- recorded.
abbrev pub Stands : Setting → ℕ → List Step → ℕ → List Line → Type 0
Stands s effort [] left lines = (left ≡ effort) × (lines ≡ [])
Stands s effort (first_of l ∷ steps) left lines = IsJudged s (path_of steps) (splits l) × Stands s effort steps left lines
Stands s effort (second_of l first ∷ steps) left lines =
    (before : ℕ) × (front : List Line) × Turned s (path_of steps) l first left lines before front × Stands s effort steps before front

-- The node at the last branch has its core.
pub record HasCore (s : Setting) (effort : ℕ) (at : Progress) (c : List ℤ) : Type 0 where
  pub entered : ℕ
  pub front : List Line
  pub more : List Line
  pub recorded : at.lines ≡ front ++ more
  pub stands : Stands s effort at.steps entered front
  pub walked : Walks s (path_of at.steps) entered (core c more at.left)

-- the literals' variables are small enough for their opposites
abbrev pub AreSmall : List ℤ → Type 0
AreSmall = AreUpTo (2 ^ 28)

-- clauses that are kept as sets are an encoding's
pub record Keeps (e : Encoding) (known : Known) : Type 0 where
  pub greatest : known.greatest ≡ length e.senses
  pub among : AreAmong known.clauses e.clauses
  pub all : AreAmong e.clauses known.clauses

-- the clauses stay, and the assumed literals are a path's
pub record Assumes (old new : Known) (path : List ℤ) : Type 0 where
  pub greatest : new.greatest ≡ old.greatest
  pub clauses : new.clauses ≡ old.clauses
  pub assumed : reverse new.assumed ≡ path

-- The walk of the node with this path comes to an end, or goes on below it.
abbrev pub Left : Setting → ℕ → Progress → Option (Vec ℤ Global) → Type 0
Left s effort at (Some c) = HasCore s effort at c.items
Left s effort at None = Stands s effort at.steps at.left at.lines

-- Another node has to be walked, or the first node has its core and the walk refutes.
abbrev pub Unwound : Setting → ℕ → Progress → Bool → Type 0
Unwound s effort at true = Stands s effort at.steps at.left at.lines
Unwound s effort at false = WalkGives s effort (refuted at.lines)
