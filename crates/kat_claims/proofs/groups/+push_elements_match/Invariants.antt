use Rattle.std.proofs.Common.{length}
use Rattle.kat_claims.proofs.groups.+push_elements_match.Given as goal

abbrev pub decreases-push_elements_match : goal.decreases-push_elements_match
decreases-push_elements_match l = length l.ranks.now
