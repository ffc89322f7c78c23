use Rattle.std.proofs.Common.{length}
use Rattle.kat_prove.specs.Trials.{AreSeen, Holds, trial_form}
use Rattle.kat_prove.proofs.proving.proved.Given as goal

abbrev pub invariant-turns : goal.invariant-turns
invariant-turns l = Holds (trial_form l.trial) l.kept × AreSeen (trial_form l.trial) l.kept.relation.conjuncts l.seen

abbrev pub decreases-turns : goal.decreases-turns
decreases-turns l = length l.kept.numbers.items
