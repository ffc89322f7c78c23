use Rattle.kat_world.proofs.Changing.{again}
use Rattle.kat_world.proofs.delivery_laws.packets_come_again.Goals as goal

pub returns : goal.returns
returns c = λ n p r before between behind none. again n p r before between behind (λ d sorted some others once once' same. c.same_operations_same_lines.ensures.operations d some others sorted once once' same) none
