use Rattle.std.proofs.Common.{length}
use Rattle.kat_script.proofs.rules.+fit.Given as goal

abbrev pub decreases-fit : goal.decreases-fit
decreases-fit l = length l.args.now
