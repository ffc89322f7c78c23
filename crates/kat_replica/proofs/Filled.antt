-- A cell is known by its shape and its leaves.
use Rattle.std.proofs.Common.{◌≡◌, List, [], map, sym, ◌∙◌, ap, subst, IfOk, Result, Ok, Err}
use Rattle.kat_num.specs.Orders.{value_order}
use Rattle.kat_num.specs.declared.values.Value.{Value}
use Rattle.kat_expr.specs.Slots.{absent}
use Rattle.kat_lattice.specs.Maps.{MapsKin, Table}
use Rattle.kat_shape.specs.Flats.{filled_with}
use Rattle.kat_shape.specs.Forms.{CellForm, IsGoodForm, leaf_kind_of, leaf_kinds_of}
use Rattle.kat_shape.specs.Values.{Filled, OneShape, joined, leaves_of, shape_of}
use Rattle.kat_shape.proofs.ByLeaves.{leaves_determine}
use Rattle.kat_shape.proofs.Filling.{filled_leaves, filled_shape}

pub is_filled : (f : CellForm) (vs : List Value) (a : Filled) → map leaf_kind_of vs ≡ leaf_kinds_of f → shape_of a ≡ f → leaves_of a ≡ vs → a ≡ filled_with f vs
is_filled f vs a fit shape leaves =
    leaves_determine a (filled_with f vs) (shape ∙ sym (filled_shape f vs)) (leaves ∙ sym (filled_leaves f vs fit))

pub if_filled : {E : Type 0} (r : Result Filled E) (f : CellForm) (vs : List Value) → map leaf_kind_of vs ≡ leaf_kinds_of f → IfOk r (λ c. shape_of c ≡ f) → IfOk r (λ c. leaves_of c ≡ vs)
    → IfOk r (λ c. c ≡ filled_with f vs)
if_filled (Ok c) f vs fit shape leaves = is_filled f vs c fit shape leaves
if_filled (Err e) f vs fit shape leaves = tt

-- a cell that goes with one of a shape has that shape
pub same_form : (f : CellForm) (vs : List Value) (a : Filled) → OneShape a (filled_with f vs) → shape_of a ≡ f
same_form f vs a h = h.same ∙ filled_shape f vs

pub good_form : (f : CellForm) (vs : List Value) (a : Filled) → OneShape a (filled_with f vs) → IsGoodForm f
good_form f vs a h = subst IsGoodForm (same_form f vs a h) h.good

-- the same of tables
abbrev empty_table : CellForm → List Value → Table Value Filled
empty_table f vs = record { start = filled_with f vs; entries = [] }

pub table_form : (f : CellForm) (vs : List Value) (t : Table Value Filled) → MapsKin value_order OneShape joined t (empty_table f vs) → shape_of t.start ≡ f
table_form f vs t h = subst (λ c. shape_of c ≡ f) (sym h.starts) (filled_shape f vs)

pub good_table : (f : CellForm) (vs : List Value) (t : Table Value Filled) → MapsKin value_order OneShape joined t (empty_table f vs) → IsGoodForm (shape_of t.start)
good_table f vs t h = subst IsGoodForm (sym (table_form f vs t h)) (good_form f vs _ (h.values absent))

-- a cell that was made of values in the shape of another has that shape
pub has_same_shape : (a : Filled) (vs : List Value) (b : Filled) → b ≡ filled_with (shape_of a) vs → shape_of a ≡ shape_of b
has_same_shape a vs b is = sym (subst (λ c. shape_of c ≡ shape_of a) (sym is) (filled_shape (shape_of a) vs))

pub goes_like : (start like : Filled) (vs : List Value) (b : Filled) → like ≡ start → IsGoodForm (shape_of start) → b ≡ filled_with (shape_of like) vs → OneShape start b
goes_like start like vs b e good is = record {
  good = good;
  same = ap shape_of (sym e) ∙ has_same_shape like vs b is;
}

pub if_made : {E : Type 0} (r : Result Filled E) (f : CellForm) (vs ws : List Value) → ws ≡ vs → map leaf_kind_of vs ≡ leaf_kinds_of f → IfOk r (λ c. shape_of c ≡ f) → IfOk r (λ c. leaves_of c ≡ ws)
    → IfOk r (λ c. c ≡ filled_with f vs)
if_made (Ok c) f vs ws same fit shape leaves = is_filled f vs c fit shape (leaves ∙ same)
if_made (Err e) f vs ws same fit shape leaves = tt
