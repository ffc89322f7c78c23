use Rattle.kat_prove.specs.Trials.{trial_form}
use Rattle.kat_prove.proofs.Seeing.{kept_still}
use Rattle.kat_prove.proofs.skims.skimmed.Goals as goal

pub turns-init : goal.turns-init
turns-init c = (
  kept_still (trial_form c.args.trial.now) c.args.kept c.unseen-skim.result.kept c.requires.holds c.unseen-skim.ensures.kept,
  c.unseen-skim.ensures.seen (trial_form c.args.trial.now) c.unseen-skim.result.kept.relation.conjuncts,
)
