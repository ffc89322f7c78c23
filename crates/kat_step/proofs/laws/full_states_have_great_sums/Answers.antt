use Rattle.kat_num.specs.contracts.values.ValueOrd.TheImpl.Laws.{total-law}
use Rattle.kat_step.proofs.Full.{passes_means}
use Rattle.kat_step.proofs.laws.full_states_have_great_sums.Goals as goal

pub returns : goal.returns
returns c = λ d node call sorted is fits early. passes_means total-law c.tells_values_apart.ensures d node call sorted is fits early
