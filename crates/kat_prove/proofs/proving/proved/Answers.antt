use Rattle.kat_prove.specs.Trials.{trial_form}
use Rattle.kat_prove.proofs.proving.proved.Goals as goal

pub turns-init : goal.turns-init
turns-init c = (c.in_ok-kept.ensures, c.none-seen.ensures (trial_form c.args.trial.now) c.in_ok-kept.kept.relation.conjuncts)
