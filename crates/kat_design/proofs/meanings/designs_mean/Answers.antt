use Rattle.kat_num.specs.contracts.values.ValueOrd.TheImpl.Laws.{total-law}
use Rattle.kat_design.proofs.WholeDesigns.{designs_mean}
use Rattle.kat_design.proofs.meanings.designs_mean.Goals as goal

pub returns : goal.returns
returns c = λ d sorted. designs_mean total-law c.tells_values_apart.ensures d sorted
