-- The words with which the parts of a relation and of a proof begin.
use Rattle.std.specs.Prelude.{ℕ, List, [], ◌∷◌, codes, ◌==◌, if◌then◌else◌}
use Rattle.kat_wire.specs.declared.tags.ConjunctTag.{ConjunctTag}
use Rattle.kat_wire.specs.declared.tags.LineTag.{LineTag}
use Rattle.kat_wire.specs.declared.tags.ConjunctTag.TheVariants as conjunct
use Rattle.kat_wire.specs.declared.tags.LineTag.TheVariants as line

-- the words with which conjuncts begin
abbrev pub conjunct_words : List (List ℕ × ConjunctTag)
conjunct_words =
    (codes "q", conjunct.Query) ∷ (codes "e", conjunct.Equal) ∷ (codes "k", conjunct.Bounded) ∷ (codes "b", conjunct.AtLeast)
    ∷ (codes "c", conjunct.Matched) ∷ (codes "t", conjunct.Total) ∷ []

-- the words with which lines of proofs begin in a file of version 1 and of version 2
abbrev pub first_line_words : List (List ℕ × LineTag)
first_line_words = (codes "r", line.Propagated) ∷ (codes "l", line.Linear) ∷ []

abbrev pub second_line_words : List (List ℕ × LineTag)
second_line_words = (codes "r", line.Hinted) ∷ (codes "l", line.Linear) ∷ []

abbrev pub line_words : ℕ → List (List ℕ × LineTag)
line_words version = if version == 1 then first_line_words else second_line_words
