use Rattle.std.proofs.Common.{length}
use Rattle.kat_embed.proofs.keys.+keys_in.Given as goal

abbrev pub decreases-keys_in : goal.decreases-keys_in
decreases-keys_in l = length l.components.now
