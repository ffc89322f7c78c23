-- Used inside only.
-- A walk ends in one way.
use Rattle.std.specs.Prelude.{◌≡◌, ℕ, ℤ, List}
use Rattle.kat_form.specs.Encodings.{Encoding}
use Rattle.kat_walks.specs.Walks.{Comes, Outcome}

-- a node has one outcome, with this many leaves left
abbrev pub OneComes : Type 0
OneComes = (e : Encoding) (numbers : ℕ) (path : List ℤ) (left : ℕ) (a b : Outcome) → Comes e numbers path left a → Comes e numbers path left b → a ≡ b
