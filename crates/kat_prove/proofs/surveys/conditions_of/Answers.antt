use Rattle.kat_prove.proofs.Counting.{count_known}
use Rattle.kat_prove.proofs.surveys.conditions_of.Goals as goal

pub returns-clause-count : goal.returns-clause-count
returns-clause-count c =
    count_known c.args.ty.now c.args.relation.now.conjuncts c.as_slice.result.now c.as_slice-2.result.now c.as_slice-3.result.now c.as_slice.ensures c.as_slice-2.ensures c.as_slice-3.ensures
