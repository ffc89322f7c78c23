-- What takes a step on a map back takes the step on its part back.
use Rattle.std.proofs.Common.{◌≡◌, List, refl, sym, ◌∙◌, ap, subst}
use Rattle.kat_num.specs.Orders.{value_order}
use Rattle.kat_num.specs.declared.values.Value.{Value}
use Rattle.kat_lattice.specs.Maps.{IsMap, Table}
use Rattle.kat_lattice.specs.Tallies.{Sums, TalliesKin, tallies_joined}
use Rattle.kat_lattice.specs.Undos.{UndoesAt, taken_back}
use Rattle.kat_lattice.specs.declared.undo.Undo.{Undo}
use Rattle.kat_shape.specs.Values.{Filled, OneShape, joined}
use Rattle.kat_design.specs.declared.states.Part.TheVariants as part
use Rattle.kat_replica.specs.Undoing.{UndoesPart}
use Rattle.kat_replica.specs.declared.undo.PartUndo.TheVariants as undo

table_same : {V : Type 0} (s t : V) (xs ys : List (Value × V)) → s ≡ t → xs ≡ ys → ◌≡◌ {A = Table Value V} (record { start = s; entries = xs }) (record { start = t; entries = ys })
table_same s t xs ys e f = cc

before : {V : Type 0} (Keeps : Table Value V → Type 0) (step : Undo (Value × V)) (old new : Table Value V) → UndoesAt Keeps step old new
    → ◌≡◌ {A = Table Value V} (record { start = new.start; entries = taken_back step new.entries }) old
before Keeps step old new u = table_same new.start old.start (taken_back step new.entries) old.entries u.start u.back

pub undoes_table : (step : Undo (Value × Filled)) (old new : Table Value Filled) → UndoesAt (IsMap value_order OneShape joined) step old new
    → UndoesPart (undo.Table step) (part.Table old) (part.Table new)
undoes_table step old new u =
    let is = before (IsMap value_order OneShape joined) step old new u in
    record { backable = (u.inside, subst (IsMap value_order OneShape joined) (sym is) u.kept); back = ap part.Table is }

pub undoes_tallies : (step : Undo (Value × Sums)) (old new : Table Value Sums) → UndoesAt (IsMap value_order TalliesKin tallies_joined) step old new
    → UndoesPart (undo.Tallies step) (part.Tallies old) (part.Tallies new)
undoes_tallies step old new u =
    let is = before (IsMap value_order TalliesKin tallies_joined) step old new u in
    record { backable = (u.inside, subst (IsMap value_order TalliesKin tallies_joined) (sym is) u.kept); back = ap part.Tallies is }
