use Rattle.std.proofs.Common.{length}
use Rattle.kat_share_step.proofs.packets.+with_share_packets.Given as goal

abbrev pub decreases-with_share_packets : goal.decreases-with_share_packets
decreases-with_share_packets l = length l.packets.now
