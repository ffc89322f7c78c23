-- Tables are joins of effects.
use Rattle.std.proofs.Common.{◌≡◌, ℕ, Bool, true, false, List, [], ◌∷◌, refl, sym, ◌∙◌, ap, subst, cond, map, Option, None, Some}
use Rattle.std.specs.Cmp.{IsTotalOrder}
use Rattle.std.proofs.lemmas.Bool.{false≢true}
use Rattle.kat_num.specs.Orders.{value_order}
use Rattle.kat_num.specs.declared.values.Value.{Value}
use Rattle.kat_expr.specs.Slots.{argument}
use Rattle.kat_lattice.specs.Maps.{IsKept, IsMap, MapsKin, Table}
use Rattle.kat_lattice.specs.MapLaws.{map_laws}
use Rattle.kat_lattice.specs.Sets.{TellsApart}
use Rattle.kat_lattice.proofs.Readings.{maps_go}
use Rattle.kat_shape.specs.Flats.{filled_with}
use Rattle.kat_shape.specs.Forms.{CellForm, IsGoodForm}
use Rattle.kat_shape.specs.Laws.{cell_laws}
use Rattle.kat_shape.specs.Values.{Filled, OneShape, joined, leaves_of}
use Rattle.kat_type.specs.declared.done.Done.{Done}
use Rattle.kat_design.specs.Denotations.{alone_at, table_effect, table_effects}
use Rattle.kat_design.specs.Effects.{effect_of, leaf_value}
use Rattle.kat_design.specs.Meanings.{AreEffects, Means, joins}
use Rattle.kat_type.specs.Unions.{are_same_values}
use Rattle.kat_design.specs.declared.designs.Leaf.{Leaf}
use Rattle.kat_design.proofs.Instances.{one_shape}
use Rattle.kat_design.proofs.Joining.{joins_mean}
use Rattle.kat_type.proofs.Unions.{values_itself}

-- a value that is joined to the start and isn't the start again is one that a table keeps
own_again : (start v : Filled) → OneShape start v → joined start (joined start v) ≡ joined start v
own_again start v h =
    let itself : OneShape start start = record { good = h.good; same = refl } in
    sym (cell_laws.assoc start start v itself h) ∙ ap (λ c. joined c v) (cell_laws.idem start itself)

kept_alone : (start v : Filled) → OneShape start v → are_same_values (leaves_of (joined start v)) (leaves_of start) ≡ false → IsKept OneShape joined start (joined start v)
kept_alone start v h e = record {
  goes = cell_laws.keeps start v h;
  own = own_again start v h;
  differs = λ same.
      let found : are_same_values (leaves_of (joined start v)) (leaves_of start) ≡ true = subst (λ c. are_same_values (leaves_of c) (leaves_of start) ≡ true) (sym same) (values_itself (leaves_of start)) in
      false≢true (sym e ∙ found);
}

abbrev table_with : Filled → List (Value × Filled) → Table Value Filled
table_with start entries = record { start = start; entries = entries }

alone_from : (start v : Filled) (key : Value) (b : Bool) → are_same_values (leaves_of (joined start v)) (leaves_of start) ≡ b → OneShape start v
    → IsMap value_order OneShape joined (table_with start (cond b [] ((key, joined start v) ∷ [])))
alone_from start v key true e h = record { ascending = tt; kept = tt }
alone_from start v key false e h = record { ascending = (tt, tt); kept = (kept_alone start v h e, tt) }

pub alone_is : (start v : Filled) (key : Value) → OneShape start v → IsMap value_order OneShape joined (alone_at start key v)
alone_is start v key h = alone_from start v key (are_same_values (leaves_of (joined start v)) (leaves_of start)) refl h

pub effect_is : (f : CellForm) (starts : List Value) (effect : Option (ℕ × List Leaf)) (done : Done) → IsGoodForm f
    → IsMap value_order OneShape joined (table_effect f starts effect done)
effect_is f starts None done good = record { ascending = tt; kept = tt }
effect_is f starts (Some effect) done good =
    alone_is (filled_with f starts) (filled_with f (map (leaf_value done) effect.1)) (argument done.args effect.0) (one_shape f starts (map (leaf_value done) effect.1) good)

pub effect_start : (f : CellForm) (starts : List Value) (effect : Option (ℕ × List Leaf)) (done : Done) → filled_with f starts ≡ (table_effect f starts effect done).start
effect_start f starts None done = refl
effect_start f starts (Some effect) done = refl

pub tables_are : IsTotalOrder value_order → TellsApart value_order → (f : CellForm) (starts : List Value) (effects : List (Option (ℕ × List Leaf))) → IsGoodForm f
    → AreEffects (MapsKin value_order OneShape joined) (table_effects f starts effects)
tables_are total tells f starts effects good =
    let start : Table Value Filled = table_with (filled_with f starts) [] in
    let start_is : IsMap value_order OneShape joined start = record { ascending = tt; kept = tt } in
    let itself : OneShape (filled_with f starts) (filled_with f starts) = one_shape f starts starts good in
    record {
      laws = map_laws total cell_laws;
      start_kin = maps_go cell_laws start start tells start_is start_is refl itself;
      effect_kin = λ done. maps_go cell_laws start (table_effect f starts (effect_of effects done) done) tells start_is
          (effect_is f starts (effect_of effects done) done good) (effect_start f starts (effect_of effects done) done) itself;
    }

pub tables_mean : IsTotalOrder value_order → TellsApart value_order → (f : CellForm) (starts : List Value) (effects : List (Option (ℕ × List Leaf))) → IsGoodForm f
    → Means (MapsKin value_order OneShape joined) (joins (table_effects f starts effects))
tables_mean total tells f starts effects good = joins_mean (table_effects f starts effects) (tables_are total tells f starts effects good)
