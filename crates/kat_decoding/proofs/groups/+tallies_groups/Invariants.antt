use Rattle.std.proofs.Common.{length}
use Rattle.kat_decoding.proofs.groups.+tallies_groups.Given as goal

abbrev pub decreases-tallies_groups : goal.decreases-tallies_groups
decreases-tallies_groups l = length l.tokens.now
