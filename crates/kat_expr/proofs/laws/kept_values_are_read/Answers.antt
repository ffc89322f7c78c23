use Rattle.std.proofs.Common.{ap, ◌∙◌, List}
use Rattle.kat_num.specs.declared.values.Value.{Value}
use Rattle.kat_expr.specs.Slots.{entry_at}
use Rattle.kat_expr.proofs.Putting.{at_key, read_again}
use Rattle.kat_expr.proofs.laws.kept_values_are_read.Goals as goal

pub returns : goal.returns
returns c key value at start entries h =
    ap (λ (es : List (Value × Value)). entry_at at start es) (at_key key value entries h) ∙ read_again at start key value entries
