use Rattle.std.proofs.Common.{◌≡◌, ap, refl, sym, ◌∙◌, length, drop}
use Rattle.kat_shape.specs.Values.{joined}
use Rattle.kat_shape.specs.Flats.{filled_with, Fits}
use Rattle.kat_shape.specs.Forms.{form_of}
use Rattle.kat_shape.proofs.Filling.{one_form, fits_as, joined_as, fits_long, whole_taken}
use Rattle.kat_shape.proofs.cells.CellFlat.join_flat.Goals as goal

pub join_leaves-requires-clause-theirs : goal.join_leaves-requires-clause-theirs
join_leaves-requires-clause-theirs c =
    fits_as (form_of c.deref.result.now) (form_of c.self.inside.shape.value) (form_of c.other.inside.shape.value) c.other.inside.leaves.items c.deref-2.result.now (ap form_of c.deref.ensures) (one_form (form_of c.self.inside.shape.value) (form_of c.other.inside.shape.value) c.self.inside.leaves.items c.other.inside.leaves.items c.args.self.now c.args.other.now c.self.view_is c.other.view_is c.requires.same) c.deref-2.ensures.value c.other.invariant.fits

pub returns : goal.returns
returns c =
    let h : filled_with (form_of c.self.inside.shape.value) c.join_leaves.new.mine ≡ joined c.args.self.now c.args.other.now = joined_as (form_of c.deref.result.now) (form_of c.self.inside.shape.value) (form_of c.other.inside.shape.value) c.join_leaves.new.mine c.deref_mut.result.now c.self.inside.leaves.items c.deref-2.result.now c.other.inside.leaves.items c.args.self.now c.args.other.now (ap form_of c.deref.ensures) (one_form (form_of c.self.inside.shape.value) (form_of c.other.inside.shape.value) c.self.inside.leaves.items c.other.inside.leaves.items c.args.self.now c.args.other.now c.self.view_is c.other.view_is c.requires.same) c.deref_mut.ensures.value c.deref-2.ensures.value c.self.view_is c.other.view_is c.join_leaves.ensures.value in
    let fits : Fits (form_of c.deref.result.now) c.deref_mut.result.now = fits_as (form_of c.deref.result.now) (form_of c.self.inside.shape.value) (form_of c.self.inside.shape.value) c.self.inside.leaves.items c.deref_mut.result.now (ap form_of c.deref.ensures) refl c.deref_mut.ensures.value c.self.invariant.fits in
    let long : length c.join_leaves.new.mine ≡ c.self.inside.leaves.len = fits_long (form_of c.deref.result.now) c.join_leaves.new.mine c.join_leaves.ensures.fits ∙ (sym (fits_long (form_of c.deref.result.now) c.deref_mut.result.now fits) ∙ c.deref_mut.ensures.len) in
    ap (filled_with (form_of c.self.inside.shape.value)) (whole_taken c.join_leaves.new.mine (drop (length c.join_leaves.new.mine) c.self.inside.leaves.items) c.self.inside.leaves.len long) ∙ h
