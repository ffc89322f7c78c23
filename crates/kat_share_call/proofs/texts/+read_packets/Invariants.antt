use Rattle.std.proofs.Common.{length}
use Rattle.kat_share_call.proofs.texts.+read_packets.Given as goal

abbrev pub decreases-read_packets : goal.decreases-read_packets
decreases-read_packets l = length l.packets.now
