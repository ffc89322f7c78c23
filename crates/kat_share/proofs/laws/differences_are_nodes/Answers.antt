use Rattle.kat_share.proofs.ToldParts.{differences_are_nodes}
use Rattle.kat_share.proofs.laws.differences_are_nodes.Goals as goal

pub returns : goal.returns
returns c = differences_are_nodes
