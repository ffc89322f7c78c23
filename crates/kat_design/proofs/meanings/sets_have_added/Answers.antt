use Rattle.kat_num.specs.contracts.values.ValueOrd.TheImpl.Laws.{total-law}
use Rattle.kat_design.proofs.Reading.{sets_have_added}
use Rattle.kat_design.proofs.meanings.sets_have_added.Goals as goal

pub returns : goal.returns
returns c = sets_have_added total-law c.tells_values_apart.ensures
