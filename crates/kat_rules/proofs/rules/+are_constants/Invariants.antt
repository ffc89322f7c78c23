use Rattle.std.proofs.Common.{length}
use Rattle.kat_rules.proofs.rules.+are_constants.Given as goal

abbrev pub decreases-are_constants : goal.decreases-are_constants
decreases-are_constants l = length l.starts.now
