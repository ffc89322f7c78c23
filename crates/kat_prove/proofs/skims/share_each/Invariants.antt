use Rattle.std.proofs.Common.{length}
use Rattle.kat_prove.specs.Trials.{IsNoLonger, trial_form}
use Rattle.kat_prove.proofs.skims.share_each.Given as goal

abbrev pub invariant-others : goal.invariant-others
invariant-others l = IsNoLonger (trial_form l.trial) (length l.fn.kept.numbers.items) l.left
