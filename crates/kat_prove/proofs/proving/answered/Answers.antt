use Rattle.kat_prove.specs.Trials.{trial_form}
use Rattle.kat_prove.proofs.Concluding.{query_open}
use Rattle.kat_prove.proofs.proving.answered.Goals as goal

pub returns-in-Query : goal.returns-in-Query
returns-in-Query c =
    query_open (trial_form c.args.trial.now) c.args.kept c.in-Query.kept c.args.number c.in-Query.query c.args.point c.in-Query.point c.in_ok-kept.field-0 c.requires.holds c.requires.failure c.in-Query.is c.in_ok-kept.ensures
