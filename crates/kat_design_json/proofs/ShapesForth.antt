-- What is printed of a shape has no fault of form, and says what it was printed of.
use Rattle.std.proofs.Common.{refl}
use Rattle.kat_shape.specs.Forms.{CellForm, numbers, names, truths, lex, pair}
use Rattle.kat_design_json.specs.DesignFaults.{shape_faults}
use Rattle.kat_design_json.specs.DesignParts.{shape_said}
use Rattle.kat_design_json.specs.PrintedDesigns.{shape_data}
use Rattle.kat_json.proofs.Forwards.{GoesForth}

-- shapes
pub shape_forth : (shape : CellForm) → GoesForth shape_faults shape_said shape_data shape
shape_forth numbers = record { none = refl; back = refl }
shape_forth names = record { none = refl; back = refl }
shape_forth truths = record { none = refl; back = refl }
shape_forth (lex a b) =
    let first = shape_forth a in let second = shape_forth b in let f = first.none in let g = second.none in let h = first.back in let k = second.back in
    record { none = rw (f, g) refl; back = rw (h, k) refl }
shape_forth (pair a b) =
    let first = shape_forth a in let second = shape_forth b in let f = first.none in let g = second.none in let h = first.back in let k = second.back in
    record { none = rw (f, g) refl; back = rw (h, k) refl }
