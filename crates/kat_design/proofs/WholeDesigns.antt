-- Designs mean what they should.
use Rattle.std.proofs.Common.{◌≡◌, List, [], ◌∷◌, refl, sym, ◌∙◌, ap, map, Option, None, Some}
use Rattle.std.specs.Cmp.{IsTotalOrder}
use Rattle.std.specs.List.{AllByRecursion}
use Rattle.kat_lattice.specs.Maps.{MapsKin}
use Rattle.kat_lattice.specs.Sets.{SetsKin, TellsApart}
use Rattle.kat_lattice.specs.Tallies.{TalliesKin, tallies_joined}
use Rattle.kat_num.specs.Orders.{value_order}
use Rattle.kat_num.specs.declared.values.Value.{Value}
use Rattle.kat_shape.specs.Flats.{filled_with}
use Rattle.kat_shape.specs.Forms.{CellForm, IsGoodForm}
use Rattle.kat_shape.specs.Laws.{cell_laws}
use Rattle.kat_shape.specs.Values.{Filled, OneShape, joined}
use Rattle.kat_type.specs.declared.done.Done.{Done}
use Rattle.kat_type.specs.declared.signatures.OpSig.{OpSig}
use Rattle.kat_design.specs.Denotations.{added_key, bumped_key, cell_added, component_meaning, design_meaning, keyed_weight, table_effects, tally_weight}
use Rattle.kat_design.specs.Designs.{ComponentForm, DesignForm}
use Rattle.kat_design.specs.Designs.ComponentForm.{a_cell, a_table, a_set, a_tally, tallies}
use Rattle.kat_design.specs.Effects.{cell_effect, cell_effects, effect_of, set_effects}
use Rattle.kat_design.specs.KeyedTallies.{keyed_tallies}
use Rattle.kat_design.specs.Meanings.{Means, are_kin, denotation, joins, tallied}
use Rattle.kat_design.specs.Parts.{PartsKin}
use Rattle.kat_design.specs.Sorted.{EachHas, IsComponent, IsWellSorted}
use Rattle.kat_design.specs.declared.designs.Leaf.{Leaf}
use Rattle.kat_design.specs.declared.states.Part.TheVariants as part
use Rattle.kat_design.proofs.Instances.{cells_are, cells_mean, sets_mean}
use Rattle.kat_design.proofs.Joining.{start-joined, start-kin-denotation}
use Rattle.kat_design.proofs.KeyedMean.{wrapped_mean}
use Rattle.kat_design.proofs.KeyedTallying.{keyed_tallies_mean}
use Rattle.kat_design.proofs.Tables.{tables_mean}
use Rattle.kat_design.proofs.Tallies.{tallies_mean}
use Rattle.kat_design.proofs.Together.{all_mean}

-- a cell holds its start, so an operation without an effect adds nothing to it
holds_start : (shape : CellForm) (starts : List Value) (effects : List (Option (List Leaf))) → IsGoodForm shape → (xs : List Done)
    → joined (denotation (cell_effects shape starts effects) xs) (filled_with shape starts) ≡ denotation (cell_effects shape starts effects) xs
holds_start shape starts effects good xs =
    let are = cells_are shape starts effects good in
    sym (cell_laws.comm (filled_with shape starts) (denotation (cell_effects shape starts effects) xs) (start-kin-denotation (cell_effects shape starts effects) are xs))
    ∙ start-joined (cell_effects shape starts effects) are xs

cell_more : (shape : CellForm) (starts : List Value) (cell : Filled) (effect : Option (List Leaf)) (one : Done) → joined cell (filled_with shape starts) ≡ cell
    → cell_added shape cell effect one ≡ joined cell (cell_effect shape starts effect one)
cell_more shape starts cell None one e = sym e
cell_more shape starts cell (Some leaves) one e = refl

cell_is_added : (shape : CellForm) (starts : List Value) (effects : List (Option (List Leaf))) → IsGoodForm shape → (xs : List Done) (one : Done)
    → cell_added shape (denotation (cell_effects shape starts effects) xs) (effect_of effects one) one
    ≡ joined (denotation (cell_effects shape starts effects) xs) (cell_effect shape starts (effect_of effects one) one)
cell_is_added shape starts effects good xs one =
    cell_more shape starts (denotation (cell_effects shape starts effects) xs) (effect_of effects one) one (holds_start shape starts effects good xs)

pub component_means : IsTotalOrder value_order → TellsApart value_order → (ops : List OpSig) (component : ComponentForm) → IsComponent ops component
    → Means PartsKin (component_meaning component)
component_means total tells ops (a_cell shape starts effects) is =
    let cells = cells_mean shape starts effects is.0 in
    record {
      goes = cells.goes;
      same = λ xs ys once twice same. ap part.Cell (cells.same xs ys once twice same);
      adds = λ xs one. ap part.Cell (cell_is_added shape starts effects is.0 xs one ∙ cells.adds xs one);
      unites = λ xs ys once twice nested. ap part.Cell (cells.unites xs ys once twice nested);
    }
component_means total tells ops (a_table key shape starts effects) is =
    wrapped_mean PartsKin (MapsKin value_order OneShape joined) (component_meaning (a_table key shape starts effects)) (joins (table_effects shape starts effects)) part.Table
    (record { is = λ xs. refl; joins = λ a b. refl; adds = λ a new. refl; goes = λ a b h. h })
    (tables_mean total tells shape starts effects is.1)
component_means total tells ops (a_set key effects) is =
    wrapped_mean PartsKin (SetsKin value_order) (component_meaning (a_set key effects)) (joins (set_effects value_order (added_key effects))) part.Set
    (record { is = λ xs. refl; joins = λ a b. refl; adds = λ a new. refl; goes = λ a b h. h })
    (sets_mean value_order total tells (added_key effects))
component_means total tells ops (a_tally effects) is =
    wrapped_mean PartsKin TalliesKin (component_meaning (a_tally effects)) (tallied (tally_weight effects)) part.Tally
    (record { is = λ xs. refl; joins = λ a b. refl; adds = λ a new. refl; goes = λ a b h. h })
    (tallies_mean (tally_weight effects))
component_means total tells ops (tallies key effects) is =
    wrapped_mean PartsKin (MapsKin value_order TalliesKin tallies_joined) (component_meaning (tallies key effects)) (keyed_tallies value_order (bumped_key effects) (keyed_weight effects)) part.Tallies
    (record { is = λ xs. refl; joins = λ a b. refl; adds = λ a new. refl; goes = λ a b h. h })
    (keyed_tallies_mean value_order total tells (bumped_key effects) (keyed_weight effects))

components_mean : IsTotalOrder value_order → TellsApart value_order → (ops : List OpSig) (components : List ComponentForm) → EachHas (IsComponent ops) components
    → AllByRecursion (λ m. Means PartsKin m) (map component_meaning components)
components_mean total tells ops [] is = tt
components_mean total tells ops (component ∷ components) is = (component_means total tells ops component is.0, components_mean total tells ops components is.1)

pub designs_mean : IsTotalOrder value_order → TellsApart value_order → (d : DesignForm) → IsWellSorted d → Means (are_kin PartsKin) (design_meaning d)
designs_mean total tells d sorted =
    all_mean PartsKin (map component_meaning d.components) (components_mean total tells d.sig.ops d.components sorted.components)
