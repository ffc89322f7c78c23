-- Designs that answer as a sequential type does.
use Rattle.std.specs.Prelude.{◌≡◌, ℕ, List, Some, slice_get}
use Rattle.kat_design.specs.Answers.{answer_of}
use Rattle.kat_design.specs.Denotations.{denotation_of}
use Rattle.kat_design.specs.Designs.{DesignForm}
use Rattle.kat_expr.specs.Slots.{argument}
use Rattle.kat_num.specs.Values.{HasSort}
use Rattle.kat_num.specs.declared.values.Value.{Value}
use Rattle.kat_script.specs.declared.script.Line.TheVariants.{Show}
use Rattle.kat_script.specs.declared.script.Script.{Script}
use Rattle.kat_seq.specs.Operations.{CanBeDone}
use Rattle.kat_type.specs.Lists.{Has}
use Rattle.kat_type.specs.Types.{QueryForm, TypeForm}
use Rattle.kat_type.specs.declared.done.Done.{Done}
use Rattle.kat_type.specs.declared.types.Param.{Param}
use Rattle.kat_world.specs.Answers.{IsSequentialAnswer}

-- whatever operations were done, what the design answers in the state that they give is the answer of the type in every
-- order that respects the ranks
abbrev pub AnswersAsType : TypeForm → DesignForm → Type 0
AnswersAsType ty d = (ones : List Done) → CanBeDone ty ones
    → (query : ℕ) (q : QueryForm) (args : List Value) → slice_get ty.queries query ≡ Some q
    → ((place : ℕ) (p : Param) → slice_get q.params place ≡ Some p → HasSort p.sort (argument args place))
    → IsSequentialAnswer ty ones query args (answer_of d (denotation_of d ones) query args)

-- a script without a show
abbrev pub ShowsNothing : Script → Type 0
ShowsNothing script = (r : ℕ) → Has script.lines (Show r) → ⊥
