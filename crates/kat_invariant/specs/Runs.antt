-- Used inside only.
-- A design whose relation is an inductive invariant gives sequential answers.
use Rattle.std.specs.Prelude.{◌≡◌, ℕ, List, [], ◌∷◌, Option, None, Some, slice_get}
use Rattle.kat_num.specs.Values.{HasSort}
use Rattle.kat_num.specs.declared.values.Sort.{Sort}
use Rattle.kat_num.specs.declared.values.Value.{Value}
use Rattle.kat_expr.specs.Slots.{absent}
use Rattle.kat_type.specs.Arrangements.{Arranges, RespectsRanks}
use Rattle.kat_type.specs.Types.{QueryForm, TypeForm}
use Rattle.kat_type.specs.declared.done.Done.{Done}
use Rattle.kat_seq.specs.Operations.{CanBeDone}
use Rattle.kat_seq.specs.States.{answer_of, state_after}
use Rattle.kat_design.specs.Answers.{answer_of as design_answer_of}
use Rattle.kat_design.specs.Denotations.{denotation_of}
use Rattle.kat_design.specs.Designs.{ComponentForm, DesignForm}
use Rattle.kat_design.specs.Kinds.{key_sort}
use Rattle.kat_design.specs.Sorted.{EachHas, IsWellSorted}
use Rattle.kat_relation.specs.Fits.{FitsConjunct}
use Rattle.kat_relation.specs.declared.relations.Conjunct.{Conjunct}
use Rattle.kat_invariant.specs.Accepted.{GoTogether, HaveRefutations}
use Rattle.kat_invariant.specs.Asked.{parts_held}
use Rattle.kat_invariant.specs.Inductive.{FitQuery, IsInductive}
use Rattle.kat_invariant.specs.Situations.{Situation, after, start_of}

-- the situation after operations, one after the other
abbrev pub behind : TypeForm → DesignForm → Situation → List Done → Situation
behind ty d s [] = s
behind ty d s (done ∷ dones) = behind ty d (after ty d done s) dones

-- a key at which a component is read
abbrev pub IsKeyFor : Option Sort → Value → Type 0
IsKeyFor None key = key ≡ absent
IsKeyFor (Some s) key = HasSort s key

-- what is held after operations is what their denotation holds
abbrev pub DenotationsAreHeld : Type 0
DenotationsAreHeld = (ty : TypeForm) (d : DesignForm) (dones : List Done) (place : ℕ) (component : ComponentForm) (key : Value) → IsWellSorted d
    → slice_get d.components place ≡ Some component → IsKeyFor (key_sort component) key
    → (behind ty d (start_of ty d) dones).held place key ≡ parts_held (denotation_of d dones) place key

-- In the state that a design gives to any operations that can have been done together, each query has the answer that the type gives after them, in
-- whatever order that respects the ranks.
abbrev pub AnswersAsType : TypeForm → DesignForm → Type 0
AnswersAsType ty d = (ones : List Done) → CanBeDone ty ones
    → (query : ℕ) (q : QueryForm) (args : List Value) → slice_get ty.queries query ≡ Some q → FitQuery q args
    → (arranged : List Done) → Arranges arranged ones → RespectsRanks ty arranged
    → design_answer_of d (denotation_of d ones) query args ≡ answer_of ty (state_after ty arranged) query args

-- a design that has an inductive relation with the type answers so, and hence one whose conditions are all refuted
abbrev pub InductiveDesignsAnswerAsType : Type 0
InductiveDesignsAnswerAsType = (ty : TypeForm) (d : DesignForm) (relation : List Conjunct) → GoTogether ty d → IsInductive ty d relation → AnswersAsType ty d

abbrev pub RefutedDesignsAnswerAsType : Type 0
RefutedDesignsAnswerAsType = (ty : TypeForm) (d : DesignForm) (relation : List Conjunct) → GoTogether ty d → EachHas (FitsConjunct ty d.components) relation → HaveRefutations ty d relation → AnswersAsType ty d
