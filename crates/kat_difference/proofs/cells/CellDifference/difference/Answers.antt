use Rattle.kat_shape.specs.Laws.{cell_laws}
use Rattle.kat_difference.proofs.PieceLemmas.{whole_pieces}
use Rattle.kat_difference.proofs.WholeCells.{cell_told, cells_go}
use Rattle.kat_difference.proofs.cells.CellDifference.difference.Goals as goal

pub whole_or_none-requires : goal.whole_or_none-requires
whole_or_none-requires c = cells_go c.requires.known c.requires.value

pub returns-clause-lacks : goal.returns-clause-lacks
returns-clause-lacks c = cell_told c.whole_or_none.result c.requires.known c.requires.value c.whole_or_none.ensures

pub returns-clause-piece : goal.returns-clause-piece
returns-clause-piece c = whole_pieces cell_laws c.whole_or_none.result c.requires.known c.requires.value c.whole_or_none.ensures
