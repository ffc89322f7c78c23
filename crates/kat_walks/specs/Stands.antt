-- Used inside only.
-- Used by kat_block and inside only: where the code of a walk is, and what its answers are.
use Rattle.std.specs.Prelude.{◌≡◌, ℕ, ℤ, List, [], ◌∷◌, length, reverse, Option, None, Some, Vec}
use Rattle.std.specs.Global.{Global}
use Rattle.kat_clause.specs.Clauses.{AreAmong}
use Rattle.kat_clause.specs.Known.{AreUpTo, Known}
use Rattle.kat_clause.specs.Literals.{IsUpTo}
use Rattle.kat_form.specs.Encodings.{Encoding}
use Rattle.kat_walks.specs.Walkable.{IsWalkable}
use Rattle.kat_walks.specs.Walks.{Comes, End, EndsIn, IsNode, Judgement, Outcome}
use Rattle.kat_walks.specs.Walks.End.{used_up, met_point, too_many, too_wide}
use Rattle.kat_walks.specs.Walks.Judgement.{closes, stops, branches}
use Rattle.kat_walks.specs.Walks.Outcome.{core_of, ends_so}
use Rattle.kat_walks.specs.declared.walking.Judged.{Judged}
use Rattle.kat_walks.specs.declared.walking.Judged.TheVariants.{Closes, Stops, Branches}
use Rattle.kat_walks.specs.declared.walking.Reached.{Reached}
use Rattle.kat_walks.specs.declared.walking.Reached.TheVariants.{Core, Ended}
use Rattle.kat_walks.specs.declared.walking.WalkEnd.{WalkEnd}
use Rattle.kat_walks.specs.declared.walking.WalkEnd.TheVariants.{UsedUp, MetPoint, TooMany, TooWide}

abbrev pub end_of : WalkEnd → End
end_of UsedUp = used_up
end_of MetPoint = met_point
end_of (TooMany lits plus minus rest) = too_many lits.items plus minus rest
end_of (TooWide lits left right) = too_wide lits.items left right

-- the clauses that a leaf adds
abbrev pub added_by : Option (Vec ℤ Global) → List (List ℤ)
added_by None = []
added_by (Some clause) = clause.items ∷ []

abbrev pub judgement_of : Judged → Judgement
judgement_of (Closes own) = closes (added_by own)
judgement_of (Stops end) = stops (end_of end)
judgement_of (Branches literal) = branches literal

abbrev pub outcome_of : Reached → Outcome
outcome_of (Core core left) = core_of core.items left
outcome_of (Ended end) = ends_so (end_of end)

-- clauses as sets are an encoding's, and the literals of a path are assumed, first to last
pub record StandsAt (e : Encoding) (numbers : ℕ) (known : Known) (path : List ℤ) : Type 0 where
  pub walkable : IsWalkable numbers e
  pub greatest : known.greatest ≡ length e.senses
  pub among : AreAmong known.clauses e.clauses
  pub all : AreAmong e.clauses known.clauses
  pub assumed : known.assumed ≡ path
  pub up_to : AreUpTo known.greatest path

-- the literal of a split is one of the encoding
abbrev pub HasLiteral : ℕ → Judged → Type 0
HasLiteral greatest (Closes own) = Unit {0}
HasLiteral greatest (Stops end) = Unit {0}
HasLiteral greatest (Branches literal) = IsUpTo greatest literal

-- the node of the path is this, last literal first
abbrev pub IsNodeAt : Encoding → ℕ → List ℤ → Judgement → Type 0
IsNodeAt e numbers path j = IsNode e numbers (reverse path) j

abbrev pub ComesAt : Encoding → ℕ → List ℤ → ℕ → Reached → Type 0
ComesAt e numbers path left r = Comes e numbers (reverse path) left (outcome_of r)

-- clauses that are kept as sets are an encoding's
pub record Keeps (e : Encoding) (known : Known) : Type 0 where
  pub greatest : known.greatest ≡ length e.senses
  pub among : AreAmong known.clauses e.clauses
  pub all : AreAmong e.clauses known.clauses

-- how the walk of the first node ends, or that it has its core
abbrev pub IsWalked : Encoding → ℕ → ℕ → Option WalkEnd → Type 0
IsWalked e numbers effort (Some end) = EndsIn e numbers effort (end_of end)
IsWalked e numbers effort None = (c : List ℤ) × (left : ℕ) × Comes e numbers [] effort (core_of c left)

-- the same of what comes of the first node
abbrev pub IsWalkedTo : Encoding → ℕ → ℕ → Reached → Option WalkEnd → Type 0
IsWalkedTo e numbers effort (Core core left) end = end ≡ None
IsWalkedTo e numbers effort (Ended end) other = other ≡ Some end
