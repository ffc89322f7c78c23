use Rattle.std.proofs.Common.{length}
use Rattle.kat_decoding.proofs.groups.+tally_groups.Given as goal

abbrev pub decreases-tally_groups : goal.decreases-tally_groups
decreases-tally_groups l = length l.tokens.now
