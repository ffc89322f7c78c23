use Rattle.kat_num.specs.contracts.values.ValueOrd.TheImpl.Laws.{total-law}
use Rattle.kat_design.proofs.Reading.{keyed_tallies_sum}
use Rattle.kat_design.proofs.meanings.keyed_tallies_sum.Goals as goal

pub returns : goal.returns
returns c = keyed_tallies_sum total-law c.tells_values_apart.ensures
