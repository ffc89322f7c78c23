use Rattle.kat_design.proofs.SmallStates.{roomy_state, small_state}
use Rattle.kat_design.proofs.laws.denotations_are_small.Goals as goal

pub returns-clause-small : goal.returns-clause-small
returns-clause-small c = λ d ones sorted few fits. small_state d.sig d.components ones sorted.components few fits

pub returns-clause-roomy : goal.returns-clause-roomy
returns-clause-roomy c = λ d ones few fits. roomy_state d.sig d.components ones few fits
