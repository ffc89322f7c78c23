use Rattle.kat_share_step.proofs.Taking.{share_merged}
use Rattle.kat_share_step.proofs.packets.with_share_packet.Goals as goal

pub returns-clause-merged : goal.returns-clause-merged
returns-clause-merged c = share_merged c.args.share c.args.packet.now c.in_ok-node.node c.in_ok-greater.greater c.in_ok-node.ensures.merged c.in_ok-greater.ensures.joined
