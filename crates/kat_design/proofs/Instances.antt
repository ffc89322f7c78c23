-- Cells and sets are joins of effects.
use Rattle.std.proofs.Common.{List, sym, subst, Option, None, Some, ◌∙◌}
use Rattle.std.specs.declared.cmp.Ordering.{Ordering}
use Rattle.std.specs.Cmp.{IsTotalOrder}
use Rattle.kat_num.specs.declared.values.Value.{Value}
use Rattle.kat_lattice.specs.Keyed.{IsAscending}
use Rattle.kat_lattice.specs.Sets.{SetsKin, TellsApart, set_laws}
use Rattle.kat_shape.specs.Flats.{filled_with}
use Rattle.kat_shape.specs.Forms.{CellForm, IsGoodForm}
use Rattle.kat_shape.specs.Laws.{cell_laws}
use Rattle.kat_shape.specs.Values.{OneShape}
use Rattle.kat_shape.proofs.Filling.{filled_shape}
use Rattle.kat_type.specs.declared.done.Done.{Done}
use Rattle.kat_design.specs.Effects.{cell_effect, cell_effects, effect_of, key_alone, set_effects}
use Rattle.kat_design.specs.Meanings.{AreEffects, Means, joins}
use Rattle.kat_design.specs.declared.designs.Leaf.{Leaf}
use Rattle.kat_design.proofs.Joining.{joins_mean}

pub one_shape : (f : CellForm) (xs ys : List Value) → IsGoodForm f → OneShape (filled_with f xs) (filled_with f ys)
one_shape f xs ys good = record {
  good = subst IsGoodForm (sym (filled_shape f xs)) good;
  same = filled_shape f xs ∙ sym (filled_shape f ys);
}

effect_kin : (f : CellForm) (starts : List Value) (effect : Option (List Leaf)) (done : Done) → IsGoodForm f → OneShape (filled_with f starts) (cell_effect f starts effect done)
effect_kin f starts None done good = one_shape f starts starts good
effect_kin f starts (Some leaves) done good = one_shape f starts _ good

pub cells_are : (f : CellForm) (starts : List Value) (effects : List (Option (List Leaf))) → IsGoodForm f → AreEffects OneShape (cell_effects f starts effects)
cells_are f starts effects good = record {
  laws = cell_laws;
  start_kin = one_shape f starts starts good;
  effect_kin = λ done. effect_kin f starts (effect_of effects done) done good;
}

pub cells_mean : (f : CellForm) (starts : List Value) (effects : List (Option (List Leaf))) → IsGoodForm f → Means OneShape (joins (cell_effects f starts effects))
cells_mean f starts effects good = joins_mean (cell_effects f starts effects) (cells_are f starts effects good)

one_key : {K : Type 0} (order : K → K → Ordering) (key : Option K) → IsAscending order (key_alone key)
one_key order None = tt
one_key order (Some key) = (tt, tt)

pub sets_are : {K : Type 0} (order : K → K → Ordering) → IsTotalOrder order → TellsApart order → (key_of : Done → Option K) → AreEffects (SetsKin order) (set_effects order key_of)
sets_are order total tells key_of = record {
  laws = set_laws total;
  start_kin = record { tells_apart = tells; left = tt; right = tt };
  effect_kin = λ done. record { tells_apart = tells; left = tt; right = one_key order (key_of done) };
}

pub sets_mean : {K : Type 0} (order : K → K → Ordering) → IsTotalOrder order → TellsApart order → (key_of : Done → Option K) → Means (SetsKin order) (joins (set_effects order key_of))
sets_mean order total tells key_of = joins_mean (set_effects order key_of) (sets_are order total tells key_of)
