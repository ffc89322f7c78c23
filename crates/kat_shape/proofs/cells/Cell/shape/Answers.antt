use Rattle.std.proofs.Common.{ap, sym, ◌∙◌}
use Rattle.kat_shape.specs.Forms.{form_of}
use Rattle.kat_shape.specs.Values.{shape_of}
use Rattle.kat_shape.proofs.Filling.{shape_of-filled}
use Rattle.kat_shape.proofs.cells.Cell.shape.Goals as goal

pub returns : goal.returns
returns c =
    ap form_of c.deref.ensures ∙ (sym (shape_of-filled (form_of c.self.inside.shape.value) c.self.inside.leaves.items) ∙ ap shape_of c.self.view_is)
