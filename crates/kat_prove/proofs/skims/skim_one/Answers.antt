use Rattle.kat_prove.specs.Trials.{trial_form}
use Rattle.kat_prove.proofs.Seeing.{skim_goes}
use Rattle.kat_prove.proofs.skims.skim_one.Goals as goal

pub returns-in_default : goal.returns-in_default
returns-in_default c =
    skim_goes (trial_form c.args.trial.now) c.args.skim c.in_ok-found.found c.with_found.result c.requires.holds c.requires.seen c.in_ok-found.ensures c.with_found.ensures.kept c.with_found.ensures.seen
