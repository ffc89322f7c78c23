use Rattle.kat_num.specs.contracts.values.ValueOrd.TheImpl.Laws.{total-law}
use Rattle.kat_step.proofs.Near.{stepped_clock, stepped_has, stepped_is, stepped_number}
use Rattle.kat_step.proofs.laws.steps_keep_states.Goals as goal

pub returns-clause-states : goal.returns-clause-states
returns-clause-states c = λ d file packets actions sorted each near fit passed. stepped_is total-law c.tells_values_apart.ensures d (c.designs_mean.ensures d sorted) file packets actions sorted each near fit passed

pub returns-clause-has : goal.returns-clause-has
returns-clause-has c = λ d file packets actions one. stepped_has d file packets actions one

pub returns-clause-number : goal.returns-clause-number
returns-clause-number c = λ d file packets actions. stepped_number d file packets actions

pub returns-clause-clock : goal.returns-clause-clock
returns-clause-clock c = λ d file packets actions. stepped_clock d file packets actions
