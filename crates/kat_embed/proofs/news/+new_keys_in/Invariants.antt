use Rattle.std.proofs.Common.{length}
use Rattle.kat_embed.proofs.news.+new_keys_in.Given as goal

abbrev pub decreases-new_keys_in : goal.decreases-new_keys_in
decreases-new_keys_in l = length l.components.now
