use Rattle.kat_node.proofs.Uniting.{all_operations}
use Rattle.kat_node.proofs.laws.packets_unite.Goals as goal

pub returns : goal.returns
returns c = λ d xs lists node packets sorted once all is same. all_operations d (c.designs_mean.ensures d sorted) xs lists node packets once all is same
