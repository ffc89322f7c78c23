use Rattle.kat_world.proofs.Changing.{exchanged}
use Rattle.kat_world.proofs.delivery_laws.packets_come_in_any_order.Goals as goal

pub returns : goal.returns
returns c = λ n p r q s before behind. exchanged n p r q s before behind (λ d sorted some others once once' same. c.same_operations_same_lines.ensures.operations d some others sorted once once' same)
