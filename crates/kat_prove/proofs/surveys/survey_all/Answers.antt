use Rattle.std.proofs.Common.{◌+◌, refl, subst}
use Rattle.kat_prove.specs.Trials.{IsNoted, trial_form}
use Rattle.kat_prove.specs.declared.surveys.Surveyed.{Surveyed}
use Rattle.kat_prove.proofs.Surveying.{survey_goes}
use Rattle.kat_prove.proofs.surveys.survey_all.Goals as goal

pub loop-i-preserved : goal.loop-i-preserved
loop-i-preserved c = (
  survey_goes (trial_form c.args.trial.now) c.args.relation.now.conjuncts c.loop-i.i (c.loop-i.i + 1) (c.loop-i.i + 1)
      c.loop-i.survey c.in-Quiet.longer c.in_ok-found.found refl refl c.loop-i.invariant.0 c.in_ok-found.ensures.found
      (subst (λ (s : Surveyed). IsNoted c.loop-i.survey (c.loop-i.i + 1) c.in_ok-found.found s) c.in-Quiet.is c.in_ok-number.ensures),
  c.in_ok-found.ensures.seen,
)
