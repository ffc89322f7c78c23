use Rattle.std.proofs.Common.{length}
use Rattle.kat_decoding.proofs.groups.+cell_groups.Given as goal

abbrev pub decreases-cell_groups : goal.decreases-cell_groups
decreases-cell_groups l = length l.tokens.now
