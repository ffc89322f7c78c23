use Rattle.std.proofs.Common.{length}
use Rattle.kat_decoding.proofs.groups.+set_groups.Given as goal

abbrev pub decreases-set_groups : goal.decreases-set_groups
decreases-set_groups l = length l.tokens.now
