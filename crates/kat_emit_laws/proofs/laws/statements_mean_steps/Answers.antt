use Rattle.kat_num.specs.contracts.values.ValueOrd.TheImpl.Laws.{total-law}
use Rattle.kat_emit_laws.proofs.Whole.{full_means, late_means, steps_mean, wrong_means}
use Rattle.kat_emit_laws.proofs.laws.statements_mean_steps.Goals as goal

pub returns-clause-steps : goal.returns-clause-steps
returns-clause-steps c = λ d node call passes sorted is fits all told. steps_mean total-law c.tells_values_apart.ensures d node call passes sorted is fits all told

pub returns-clause-late : goal.returns-clause-late
returns-clause-late c = λ d node call passes all told. late_means d node call passes all told

pub returns-clause-full : goal.returns-clause-full
returns-clause-full c = λ d node call passes is all told. full_means d node call passes is all told

pub returns-clause-wrong : goal.returns-clause-wrong
returns-clause-wrong c = λ d node call passes param inside fails all. wrong_means d node call passes param inside fails all
