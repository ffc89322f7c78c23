use Rattle.kat_shape.specs.Forms.{form_of}
use Rattle.kat_replica.proofs.Filled.{if_filled}
use Rattle.kat_replica.proofs.starts.start_cell.Goals as goal

pub returns : goal.returns
returns c = if_filled c.cell.result (form_of c.args.shape.now) c.args.starts.now c.requires.fit c.cell.ensures.shape c.cell.ensures.leaves
