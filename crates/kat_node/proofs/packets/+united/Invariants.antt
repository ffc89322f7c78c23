use Rattle.std.proofs.Common.{length}
use Rattle.kat_node.proofs.packets.+united.Given as goal

abbrev pub decreases-united : goal.decreases-united
decreases-united l = length l.packets.now
