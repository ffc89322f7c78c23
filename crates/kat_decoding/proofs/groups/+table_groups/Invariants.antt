use Rattle.std.proofs.Common.{length}
use Rattle.kat_decoding.proofs.groups.+table_groups.Given as goal

abbrev pub decreases-table_groups : goal.decreases-table_groups
decreases-table_groups l = length l.tokens.now
