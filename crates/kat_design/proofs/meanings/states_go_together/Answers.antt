use Rattle.kat_num.specs.contracts.values.ValueOrd.TheImpl.Laws.{total-law}
use Rattle.kat_design.proofs.Kinship.{states_chained, states_turned}
use Rattle.kat_design.proofs.meanings.states_go_together.Goals as goal

pub returns-clause-denotations : goal.returns-clause-denotations
returns-clause-denotations c = λ d xs ys sorted. (c.designs_mean.ensures d sorted).goes xs ys

pub returns-clause-turned : goal.returns-clause-turned
returns-clause-turned c = λ xs ys h. states_turned total-law xs ys h

pub returns-clause-chained : goal.returns-clause-chained
returns-clause-chained c = λ xs ys zs h k. states_chained total-law xs ys zs h k
