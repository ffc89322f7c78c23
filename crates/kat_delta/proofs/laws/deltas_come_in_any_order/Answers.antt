use Rattle.kat_num.specs.contracts.values.ValueOrd.TheImpl.Laws.{total-law}
use Rattle.kat_delta.proofs.Again.{in_any_order}
use Rattle.kat_delta.proofs.laws.deltas_come_in_any_order.Goals as goal

pub returns : goal.returns
returns c = λ d origin all ones spans have last sorted once by_time placed h comes. in_any_order total-law c.tells_values_apart.ensures d sorted origin ones by_time placed spans all have last once h comes
