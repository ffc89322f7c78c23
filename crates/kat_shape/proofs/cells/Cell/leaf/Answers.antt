use Rattle.std.proofs.Common.{rules, ◌≡◌, ◌<◌, List, length, slice_index_or, sym, subst}
use Rattle.kat_num.specs.declared.values.Value.{Value}
use Rattle.kat_shape.specs.Forms.{form_of}
use Rattle.kat_shape.specs.Values.{leaves_of}
use Rattle.kat_shape.proofs.Filling.{kept_leaves}
use Rattle.kat_shape.proofs.cells.Cell.leaf.Goals as goal

pub index-requires : goal.index-requires
index-requires c =
    let e : leaves_of c.args.self.now ≡ c.self.inside.leaves.items = kept_leaves (form_of c.self.inside.shape.value) c.self.inside.leaves.items c.args.self.now c.self.invariant.fits c.self.view_is in
    let h : c.args.i < length c.self.inside.leaves.items = subst (λ (vs : List Value). c.args.i < length vs) e c.requires in
    search (rules, h)

pub returns : goal.returns
returns c =
    let e : leaves_of c.args.self.now ≡ c.self.inside.leaves.items = kept_leaves (form_of c.self.inside.shape.value) c.self.inside.leaves.items c.args.self.now c.self.invariant.fits c.self.view_is in
    subst (λ (vs : List Value). c.index.result.now ≡ slice_index_or vs c.args.i c.index.result.now) (sym e) c.index.ensures
