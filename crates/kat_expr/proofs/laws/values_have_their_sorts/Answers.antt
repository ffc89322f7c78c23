use Rattle.kat_expr.proofs.Sorted.{value_has_sort}
use Rattle.kat_expr.proofs.laws.values_have_their_sorts.Goals as goal

pub returns : goal.returns
returns c = value_has_sort
