use Rattle.kat_shape.specs.Forms.{form_of}
use Rattle.kat_shape.proofs.Filling.{go_together}
use Rattle.kat_shape.proofs.cells.Cell.goes_with.Goals as goal

pub returns : goal.returns
returns c =
    go_together (form_of c.self.inside.shape.value) c.self.inside.leaves.items c.args.self.now c.args.other.now c.self.invariant c.self.view_is c.requires
