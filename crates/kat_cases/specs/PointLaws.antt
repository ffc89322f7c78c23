-- Used inside only.
-- What decisive points are, and what may be decided, as the public calls state it.
use Rattle.std.specs.Prelude.{◌≡◌, ℕ, ◌≤◌, ◌^◌, ℤ, pos, unsigned_abs, List, [], ◌∷◌, length, Bool, slice_index_or}
use Rattle.std.specs.List.{All}
use Rattle.kat_linear.specs.Rows.{IsAscending}
use Rattle.kat_form.specs.Encodings.{Encoding, Sense, IsFit}
use Rattle.kat_form.specs.Encodings.Sense.{truth, atom, gate}
use Rattle.kat_form.specs.Facts.{Fact, AreSized, forms_among}
use Rattle.kat_form.specs.Readings.{encoding_of, numbers_of_facts}
use Rattle.kat_form.specs.Meanings.{AreTrueFacts, over_point}
use Rattle.kat_refute.specs.Lines.{Line, AreARefutation}
use Rattle.kat_cases.specs.Points.{IsDecisive}
use Rattle.kat_cases.specs.Settings.{IsWalkable}

-- if a point decides an encoding, no list of lines refutes it
abbrev pub DecisivePointsStayOpen : Type 0
DecisivePointsStayOpen = (e : Encoding) → IsFit e → (numbers : ℕ) (den : ℤ) (nums : List ℤ) (truths : List Bool) → IsDecisive e numbers den nums truths
    → (lines : List Line) → AreARefutation e lines → ⊥

-- the values of the truth variables of an encoding, in the order of their propositional variables
abbrev pub told_by : (ℕ → Bool) → List Sense → List Bool
told_by values [] = []
told_by values (truth t ∷ senses) = values t ∷ told_by values senses
told_by values (atom form ∷ senses) = told_by values senses
told_by values (gate ∷ senses) = told_by values senses

-- A point that decides the encoding of facts makes all facts true: its fractions do, with values of the truth variables of
-- which the point has those that the encoding has.
abbrev pub DecisivePointsMeetFacts : Type 0
DecisivePointsMeetFacts = (facts : List Fact) (numbers : ℕ) (den : ℤ) (nums : List ℤ) (truths : List Bool) → IsDecisive (encoding_of facts) numbers den nums truths
    → (values : ℕ → Bool) × (truths ≡ told_by values (encoding_of facts).senses) × AreTrueFacts (over_point values (unsigned_abs den) (λ v. slice_index_or nums v (pos 0))) facts

-- the encoding of sized facts, the terms of whose forms ascend, may be walked if it has at most 2^28 variables
abbrev pub SizedFactsAreWalkable : Type 0
SizedFactsAreWalkable = (facts : List Fact) → AreSized (forms_among facts) → All IsAscending (forms_among facts) → length (encoding_of facts).senses ≤ 2 ^ 28 → IsWalkable (numbers_of_facts facts) (encoding_of facts)
