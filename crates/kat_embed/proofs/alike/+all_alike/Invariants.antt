use Rattle.std.proofs.Common.{length}
use Rattle.kat_embed.proofs.alike.+all_alike.Given as goal

abbrev pub decreases-all_alike : goal.decreases-all_alike
decreases-all_alike l = length l.left.now
