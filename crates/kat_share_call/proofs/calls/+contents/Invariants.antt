use Rattle.std.proofs.Common.{length}
use Rattle.kat_share_call.proofs.calls.+contents.Given as goal

abbrev pub decreases-contents : goal.decreases-contents
decreases-contents g l = length l.paths.now
