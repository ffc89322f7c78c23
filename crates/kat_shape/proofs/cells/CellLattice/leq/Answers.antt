use Rattle.std.proofs.Common.{ap}
use Rattle.kat_shape.specs.Forms.{form_of}
use Rattle.kat_shape.proofs.Filling.{one_form, fits_as, below_as}
use Rattle.kat_shape.proofs.cells.CellLattice.leq.Goals as goal

pub is_below-requires-clause-theirs : goal.is_below-requires-clause-theirs
is_below-requires-clause-theirs c =
    fits_as (form_of c.deref.result.now) (form_of c.self.inside.shape.value) (form_of c.other.inside.shape.value) c.other.inside.leaves.items c.deref-3.result.now (ap form_of c.deref.ensures) (one_form (form_of c.self.inside.shape.value) (form_of c.other.inside.shape.value) c.self.inside.leaves.items c.other.inside.leaves.items c.args.self.now c.args.other.now c.self.view_is c.other.view_is c.requires.same) c.deref-3.ensures.value c.other.invariant.fits

pub returns : goal.returns
returns c =
    below_as (form_of c.deref.result.now) (form_of c.self.inside.shape.value) (form_of c.other.inside.shape.value) c.deref-2.result.now c.self.inside.leaves.items c.deref-3.result.now c.other.inside.leaves.items c.args.self.now c.args.other.now c.is_below.result (ap form_of c.deref.ensures) (one_form (form_of c.self.inside.shape.value) (form_of c.other.inside.shape.value) c.self.inside.leaves.items c.other.inside.leaves.items c.args.self.now c.args.other.now c.self.view_is c.other.view_is c.requires.same) c.deref-2.ensures.value c.deref-3.ensures.value c.self.view_is c.other.view_is c.is_below.ensures
