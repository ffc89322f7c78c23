use Rattle.std.proofs.Common.{sym, ap, length, ◌∙◌}
use Rattle.std.proofs.lemmas.List.{length-map}
use Rattle.kat_shape.specs.Forms.{leaf_kind_of}
use Rattle.kat_shape.specs.Values.{leaves_of, shape_of}
use Rattle.kat_shape.proofs.Filling.{leaf_kinds_of-shape_of, kinds_long}
use Rattle.kat_shape.proofs.laws.leaves_fit_shapes.Goals as goal

pub returns : goal.returns
returns c = λ a. (
  leaf_kinds_of-shape_of a,
  sym (length-map (leaves_of a) leaf_kind_of) ∙ (ap (λ kinds. length kinds) (leaf_kinds_of-shape_of a) ∙ kinds_long (shape_of a)),
)
