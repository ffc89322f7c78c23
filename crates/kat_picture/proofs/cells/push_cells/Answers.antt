use Rattle.kat_picture.specs.Plain.{cell}
use Rattle.kat_picture.proofs.Steps.{one_more}
use Rattle.kat_picture.proofs.cells.push_cells.Goals as goal

pub loop-number-preserved : goal.loop-number-preserved
loop-number-preserved c =
    one_more (cell c.args.gap c.args.kind c.args.at) c.loop-number.number c.args.into.now.items c.loop-number.into.items c.push_cell.new.into.items
    c.loop-number.invariant c.in_ok-push_cell.ensures
