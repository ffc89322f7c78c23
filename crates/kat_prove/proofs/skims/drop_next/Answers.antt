use Rattle.kat_prove.specs.Trials.{trial_form}
use Rattle.kat_prove.proofs.Seeing.{kept_after_drop, kept_after_query}
use Rattle.kat_prove.proofs.skims.drop_next.Goals as goal

pub returns-in-Query : goal.returns-in-Query
returns-in-Query c = (
  kept_after_query (trial_form c.args.trial.now) c.args.kept c.in-Query.kept c.unseen.result.kept c.args.number c.args.point c.in-Query.point c.in-Query.query c.in_ok-kept.field-0 c.in-Query.is c.in_ok-kept.ensures
      c.requires.holds c.unseen.ensures.kept,
  c.unseen.ensures.seen (trial_form c.args.trial.now) c.unseen.result.kept.relation.conjuncts,
)

pub returns : goal.returns
returns c = (
  kept_after_drop (trial_form c.args.trial.now) c.args.kept c.in-Dropped.kept c.unseen-in-Dropped.result.kept c.args.number c.in-Dropped.next c.args.point c.in_ok-kept.field-0 c.in-Dropped.is c.in_ok-kept.ensures
      c.unseen-in-Dropped.ensures.kept,
  c.unseen-in-Dropped.ensures.seen (trial_form c.args.trial.now) c.unseen-in-Dropped.result.kept.relation.conjuncts,
)
