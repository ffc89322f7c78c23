use Rattle.kat_num.specs.contracts.values.ValueOrd.TheImpl.Laws.{total-law}
use Rattle.kat_design.proofs.Reading.{tables_are_cells}
use Rattle.kat_design.proofs.meanings.tables_are_cells.Goals as goal

pub returns : goal.returns
returns c = tables_are_cells total-law c.tells_values_apart.ensures
