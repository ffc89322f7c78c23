-- Laws of encodings, as the public calls state them.
use Rattle.std.specs.Prelude.{◌≡◌, ℕ, ◌<◌, ℤ, Bool, false, List, length, Option, Some, None}
use Rattle.std.specs.List.{All}
use Rattle.kat_linear.specs.Rows.{IsAscending}
use Rattle.kat_clause.specs.Valuations.{AreTrueClauses}
use Rattle.kat_form.specs.Encodings.{Sense, IsFit, IsBelow, HasLiterals, StandOnce}
use Rattle.kat_form.specs.Facts.{Fact, AreSized, forms_in, forms_among}
use Rattle.kat_form.specs.Readings.{place_of, encoding_of, numbers_of_facts}
use Rattle.kat_form.specs.Meanings.{value_of, holds, holds_at, over_point, IsDecided, AreTrueFacts, Reads}

-- If all facts are true, the values of the truth variables and atoms extend to values of the gates that make all
-- clauses true.
abbrev pub TruthExtends : Type 0
TruthExtends = (model : Sense → Bool) (facts : List Fact) → AreTrueFacts model facts → (values : ℕ → Bool) × (Reads values model (encoding_of facts).senses × AreTrueClauses values (encoding_of facts).clauses)

-- Values that make all clauses true make all facts true, each atom having the value of its variable.
abbrev pub ClausesDecide : Type 0
ClausesDecide = (model : Sense → Bool) (facts : List Fact) (values : ℕ → Bool) → Reads values model (encoding_of facts).senses → AreTrueClauses values (encoding_of facts).clauses → AreTrueFacts model facts

-- the value of the variable of a number, and false if there is none
abbrev pub variable_value : (ℕ → Bool) → Option ℕ → Bool
variable_value values (Some v) = values v
variable_value values None = false

-- the value of a sense by that of the first variable which stands for it
abbrev pub read_by : (ℕ → Bool) → List Sense → Sense → Bool
read_by values senses sense = variable_value values (place_of sense senses)

-- Every valuation of the propositional variables that makes all clauses true makes all facts true: it gives each truth
-- variable and each atom one value, that of its variable.
abbrev pub ValuationsDecide : Type 0
ValuationsDecide = (facts : List Fact) (values : ℕ → Bool) → Reads values (read_by values (encoding_of facts).senses) (encoding_of facts).senses × (AreTrueClauses values (encoding_of facts).clauses → AreTrueFacts (read_by values (encoding_of facts).senses) facts)

-- over whole numbers a fact's value is what it says
abbrev pub NumbersDecide : Type 0
NumbersDecide = (truths : ℕ → Bool) (nums : ℕ → ℤ) (fact : Fact) → value_of (over_point truths 1 nums) fact ≡ holds truths nums fact

-- so it is at a point that makes each form of the fact at most 0 or at least 1
abbrev pub PointsDecide : Type 0
PointsDecide = (truths : ℕ → Bool) (den : ℕ) → 0 < den → (nums : ℕ → ℤ) (fact : Fact) → All (IsDecided den nums) (forms_in fact) → value_of (over_point truths den nums) fact ≡ holds_at truths den nums fact

-- the literals of an encoding are of its variables, and no sense occurs twice
abbrev pub EncodingsAreWhole : Type 0
EncodingsAreWhole = (facts : List Fact) → All (HasLiterals (length (encoding_of facts).senses)) (encoding_of facts).clauses × StandOnce (encoding_of facts).senses

-- the atoms' number variables are below the stated number
abbrev pub NumbersSuffice : Type 0
NumbersSuffice = (facts : List Fact) → All (IsBelow (numbers_of_facts facts)) (encoding_of facts).senses

-- the encoding of sized facts, the terms of whose forms ascend, is fit
abbrev pub SizedFactsAreFit : Type 0
SizedFactsAreFit = (facts : List Fact) → AreSized (forms_among facts) → All IsAscending (forms_among facts) → IsFit (encoding_of facts)
