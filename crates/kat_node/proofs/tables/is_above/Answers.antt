use Rattle.kat_node.proofs.Alike.{above_same}
use Rattle.kat_node.proofs.tables.is_above.Goals as goal

pub returns : goal.returns
returns c = above_same c.args.start.now c.args.value.now c.requires c.leq.result c.leq.ensures
