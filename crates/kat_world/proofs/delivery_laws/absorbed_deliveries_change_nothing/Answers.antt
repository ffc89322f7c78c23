use Rattle.kat_world.proofs.Changing.{left_out}
use Rattle.kat_world.proofs.delivery_laws.absorbed_deliveries_change_nothing.Goals as goal

pub returns : goal.returns
returns c = λ n p r before behind among. left_out n p r before behind (λ d sorted some others once once' same. c.same_operations_same_lines.ensures.operations d some others sorted once once' same) among
