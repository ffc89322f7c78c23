use Rattle.std.proofs.Common.{◌+◌, ◌*◌}
use Rattle.kat_num.specs.declared.values.TheConstants.{NUMBER_LIMIT}
use Rattle.kat_expr.specs.Evaluation.{value_of}
use Rattle.kat_expr.proofs.Bounds.{at_most_size, weight_bound}
use Rattle.kat_expr.proofs.laws.values_grow_slowly.Goals as goal

pub returns : goal.returns
returns c = λ most state args e s a h n w.
    at_most_size (most + 400 * NUMBER_LIMIT) (value_of e state args) (weight_bound most NUMBER_LIMIT e state args s a h w n)
