-- Used inside only.
-- What a judged script does and asks fits the type.
use Rattle.std.specs.Prelude.{◌≡◌, ℕ, List, Some, slice_get, All}
use Rattle.kat_num.specs.Values.{HasSort}
use Rattle.kat_num.specs.declared.values.Value.{Value}
use Rattle.kat_expr.specs.Slots.{argument}
use Rattle.kat_script.specs.Facts.{done_in}
use Rattle.kat_script.specs.Judged.{IsJudged}
use Rattle.kat_script.specs.declared.script.Line.TheVariants.{Ask}
use Rattle.kat_script.specs.declared.script.Script.{Script}
use Rattle.kat_type.specs.Alike.{FitsType}
use Rattle.kat_type.specs.Lists.{Has}
use Rattle.kat_type.specs.Signatures.{signature_of}
use Rattle.kat_type.specs.Types.{QueryForm, TypeForm}
use Rattle.kat_type.specs.declared.types.Param.{Param}

-- each operation of the script is one of the type's, and its arguments have their sorts
abbrev pub OperationsFit : Type 0
OperationsFit = (ty : TypeForm) (script : Script) → IsJudged (signature_of ty) script → All (FitsType ty) (done_in script.lines)

-- each query that the script asks is one of the type's, and its arguments have their sorts
abbrev pub AsksFit : Type 0
AsksFit = (ty : TypeForm) (script : Script) → IsJudged (signature_of ty) script → (r query : ℕ) (args : List Value) → Has script.lines (Ask r query args)
    → (q : QueryForm) × (slice_get ty.queries query ≡ Some q) × ((place : ℕ) (p : Param) → slice_get q.params place ≡ Some p → HasSort p.sort (argument args place))
