use Rattle.std.proofs.Common.{length}
use Rattle.kat_prove.specs.Trials.{IsSkim, trial_form}
use Rattle.kat_prove.proofs.skims.skimmed.Given as goal

abbrev pub invariant-turns : goal.invariant-turns
invariant-turns l = IsSkim (trial_form l.trial) (length l.fn.kept.numbers.items) l.skim
