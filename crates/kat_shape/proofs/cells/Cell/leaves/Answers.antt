use Rattle.std.proofs.Common.{sym, ◌∙◌}
use Rattle.kat_shape.specs.Forms.{form_of}
use Rattle.kat_shape.proofs.Filling.{kept_leaves}
use Rattle.kat_shape.proofs.cells.Cell.leaves.Goals as goal

pub returns : goal.returns
returns c =
    c.deref.ensures.value ∙ sym (kept_leaves (form_of c.self.inside.shape.value) c.self.inside.leaves.items c.args.self.now c.self.invariant.fits c.self.view_is)
