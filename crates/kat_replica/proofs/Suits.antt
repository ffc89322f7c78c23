-- An operation that fits the signature suits each component of a well-sorted design.
use Rattle.std.proofs.Common.{◌≡◌, ℕ, ◌≤◌, true, List, [], ◌∷◌, map, refl, sym, ◌∙◌, ap, subst, Option, None, Some}
use Rattle.std.specs.Prelude.{All, IfSome, option_map, slice_get}
use Rattle.std.specs.List.{AllByRecursion, list_all}
use Rattle.std.specs.Option.{option_flatten}
use Rattle.std.proofs.lemmas.List.Elements.{All-from_recursion}
use Rattle.kat_num.specs.Orders.{value_order}
use Rattle.kat_num.specs.declared.values.Sort.{Sort}
use Rattle.kat_num.specs.declared.values.Value.{Value}
use Rattle.kat_expr.specs.Slots.{argument}
use Rattle.kat_lattice.specs.Maps.{Table, maps_joined}
use Rattle.kat_shape.specs.Flats.{filled_with}
use Rattle.kat_shape.specs.Forms.{CellForm}
use Rattle.kat_shape.specs.Values.{Filled, joined, shape_of}
use Rattle.kat_type.specs.declared.done.Done.{Done}
use Rattle.kat_type.specs.declared.signatures.OpSig.{OpSig}
use Rattle.kat_type.specs.declared.signatures.Signature.{Signature}
use Rattle.kat_design.specs.Designs.{ComponentForm, component_form}
use Rattle.kat_design.specs.Designs.ComponentForm.{a_cell, a_table, a_set, a_tally, tallies}
use Rattle.kat_design.specs.Effects.{effect_of, leaf_value}
use Rattle.kat_design.specs.Fitting.{FitsSignature}
use Rattle.kat_design.specs.Kinds.{kinds_of}
use Rattle.kat_design.specs.Sorted.{AreMatched, EachHas, FitsCell, FitsTable, IsComponent}
use Rattle.kat_design.specs.Denotations.{alone_at, cell_added, component_meaning, part_added, part_of, table_effect}
use Rattle.kat_design.specs.Meanings.{added_each, are_kin, states_of}
use Rattle.kat_design.specs.Parts.{PartsKin}
use Rattle.kat_design.specs.Small.{is_roomy_part}
use Rattle.kat_design.specs.declared.designs.Component.{Component}
use Rattle.kat_design.specs.declared.designs.Leaf.{Leaf}
use Rattle.kat_design.specs.declared.states.Part.{Part}
use Rattle.kat_design.specs.declared.states.Part.TheVariants as part
use Rattle.kat_design.proofs.SmallDesigns.{starts_fit}
use Rattle.kat_design.proofs.GivenLeaves.{AreArguments, beside, gives_leaves}
use Rattle.kat_design.proofs.SmallStates.{weight_low}
use Rattle.kat_replica.specs.Starting.{HasStarts}
use Rattle.kat_replica.specs.Suiting.{GivesLeaves, SuitEach, Suits, part_with, parts_with, table_with}
use Rattle.kat_replica.proofs.Filled.{good_table, same_form, table_form}
use Rattle.kat_replica.proofs.Rooms.{both_true}

-- the effect of the operation is the one beside it
effect_beside : {A : Type 0} (effects : List (Option A)) (done : Done) (effect : Option A) → slice_get effects done.op ≡ Some effect → effect ≡ effect_of effects done
effect_beside effects done effect e = sym (ap option_flatten e)

suits_cell : (done : Done) (op : OpSig) → AreArguments done op.sorts → (shape : CellForm) (effect : Option (List Leaf)) → FitsCell (kinds_of shape) effect op → IfSome effect (GivesLeaves shape done)
suits_cell done op args shape None h = tt
suits_cell done op args shape (Some leaves) h = gives_leaves done op.sorts args shape leaves h

suits_table : (done : Done) (op : OpSig) → AreArguments done op.sorts → (key : Sort) (shape : CellForm) (effect : Option (ℕ × List Leaf)) → FitsTable key (kinds_of shape) effect op
    → IfSome effect (λ (e : ℕ × List Leaf). GivesLeaves shape done e.1)
suits_table done op args key shape None h = tt
suits_table done op args key shape (Some effect) h = gives_leaves done op.sorts args shape effect.1 h.1

cell_suits : (sig : Signature) (done : Done) → FitsSignature sig done → (shape : CellForm) (effects : List (Option (List Leaf))) → AreMatched (FitsCell (kinds_of shape)) effects sig.ops
    → IfSome (effect_of effects done) (GivesLeaves shape done)
cell_suits sig done fits shape effects h =
    let b = beside (FitsCell (kinds_of shape)) effects sig.ops h done.op fits.op fits.found in
    subst (λ (effect : Option (List Leaf)). IfSome effect (GivesLeaves shape done)) (effect_beside effects done b.value b.there) (suits_cell done fits.op fits.args shape b.value b.matched)

table_suits : (sig : Signature) (done : Done) → FitsSignature sig done → (key : Sort) (shape : CellForm) (effects : List (Option (ℕ × List Leaf))) → AreMatched (FitsTable key (kinds_of shape)) effects sig.ops
    → IfSome (effect_of effects done) (λ (e : ℕ × List Leaf). GivesLeaves shape done e.1)
table_suits sig done fits key shape effects h =
    let b = beside (FitsTable key (kinds_of shape)) effects sig.ops h done.op fits.op fits.found in
    subst (λ (effect : Option (ℕ × List Leaf)). IfSome effect (λ (e : ℕ × List Leaf). GivesLeaves shape done e.1)) (effect_beside effects done b.value b.there)
    (suits_table done fits.op fits.args key shape b.value b.matched)

-- a part that goes with a component's, with room
part_suits : (sig : Signature) (done : Done) → FitsSignature sig done → (component : ComponentForm) → IsComponent sig.ops component → (p : Part)
    → PartsKin p (part_of component []) → is_roomy_part p ≡ true → Suits done p component
part_suits sig done fits (a_cell shape starts effects) is (part.Cell cell) kin room =
    subst (λ (f : CellForm). IfSome (effect_of effects done) (GivesLeaves f done)) (sym (same_form shape starts cell kin)) (cell_suits sig done fits shape effects is.2)
part_suits sig done fits (a_table key shape starts effects) is (part.Table table) kin room = (
  kin.left,
  good_table shape starts table kin,
  subst (λ (f : CellForm). IfSome (effect_of effects done) (λ (e : ℕ × List Leaf). GivesLeaves f done e.1)) (sym (table_form shape starts table kin)) (table_suits sig done fits key shape effects is.3),
)
part_suits sig done fits (a_set key effects) is (part.Set keys) kin room = tt
part_suits sig done fits (a_tally effects) is (part.Tally sums) kin room = (weight_low sig done (effect_of effects done) fits, room)
part_suits sig done fits (tallies key effects) is (part.Tallies table) kin room =
    (weight_low sig done (option_map (λ (effect : ℕ × Leaf). effect.1) (effect_of effects done)) fits, kin.starts, room)
part_suits sig done fits (a_cell shape starts effects) is _ kin room = absurd kin
part_suits sig done fits (a_table key shape starts effects) is _ kin room = absurd kin
part_suits sig done fits (a_set key effects) is _ kin room = absurd kin
part_suits sig done fits (a_tally effects) is _ kin room = absurd kin
part_suits sig done fits (tallies key effects) is _ kin room = absurd kin

suits_each : (sig : Signature) (done : Done) → FitsSignature sig done → (components : List ComponentForm) → EachHas (IsComponent sig.ops) components → (parts : List Part)
    → are_kin PartsKin parts (states_of (map component_meaning components) []) → list_all is_roomy_part parts ≡ true → SuitEach done parts components
suits_each sig done fits [] is [] kin room = tt
suits_each sig done fits [] is (p ∷ parts) kin room = absurd kin
suits_each sig done fits (component ∷ components) is [] kin room = absurd kin
suits_each sig done fits (component ∷ components) is (p ∷ parts) kin room =
    let h = both_true (is_roomy_part p) (list_all is_roomy_part parts) room in
    (part_suits sig done fits component is.0 p kin.0 h.0, suits_each sig done fits components is.1 parts kin.1 h.1)

-- and what becomes of it is what the component adds
table_is_added : (shape : CellForm) (starts : List Value) (table : Table Value Filled) (effect : Option (ℕ × List Leaf)) (done : Done) → table.start ≡ filled_with shape starts → shape_of table.start ≡ shape
    → table_with (shape_of table.start) table effect done ≡ maps_joined value_order joined table (table_effect shape starts effect done)
table_is_added shape starts table None done e f = refl
table_is_added shape starts table (Some effect) done e f =
    let key = argument done.args effect.0 in
    ap (λ (g : CellForm). maps_joined value_order joined table (alone_at table.start key (filled_with g (map (leaf_value done) effect.1)))) f
    ∙ ap (λ (start : Filled). maps_joined value_order joined table (alone_at start key (filled_with shape (map (leaf_value done) effect.1)))) e

part_is_added : (component : ComponentForm) (p : Part) (done : Done) → PartsKin p (part_of component []) → part_with p component done ≡ part_added component p done
part_is_added (a_cell shape starts effects) (part.Cell cell) done kin = ap (λ (f : CellForm). part.Cell (cell_added f cell (effect_of effects done) done)) (same_form shape starts cell kin)
part_is_added (a_table key shape starts effects) (part.Table table) done kin =
    ap part.Table (table_is_added shape starts table (effect_of effects done) done kin.starts (table_form shape starts table kin))
part_is_added (a_set key effects) (part.Set keys) done kin = refl
part_is_added (a_tally effects) (part.Tally sums) done kin = refl
part_is_added (tallies key effects) (part.Tallies table) done kin = refl
part_is_added (a_cell shape starts effects) _ done kin = absurd kin
part_is_added (a_table key shape starts effects) _ done kin = absurd kin
part_is_added (a_set key effects) _ done kin = absurd kin
part_is_added (a_tally effects) _ done kin = absurd kin
part_is_added (tallies key effects) _ done kin = absurd kin

two : {A : Type 0} (x y : A) (xs ys : List A) → x ≡ y → xs ≡ ys → x ∷ xs ≡ y ∷ ys
two x y xs ys e k = cc

pub each_is_added : (components : List ComponentForm) (parts : List Part) (done : Done) → are_kin PartsKin parts (states_of (map component_meaning components) [])
    → parts_with parts components done ≡ added_each (map component_meaning components) parts done
each_is_added [] [] done kin = refl
each_is_added [] (p ∷ parts) done kin = absurd kin
each_is_added (component ∷ components) [] done kin = absurd kin
each_is_added (component ∷ components) (p ∷ parts) done kin = two _ _ _ _ (part_is_added component p done kin.0) (each_is_added components parts done kin.1)

-- starts
component_starts : (ops : List OpSig) (component : ComponentForm) → IsComponent ops component → HasStarts component
component_starts ops (a_cell shape starts effects) is = (is.0, starts_fit shape starts is.1)
component_starts ops (a_table key shape starts effects) is = (is.1, starts_fit shape starts is.2)
component_starts ops (a_set key effects) is = tt
component_starts ops (a_tally effects) is = tt
component_starts ops (tallies key effects) is = tt

each_start : (ops : List OpSig) (components : List Component) → EachHas (IsComponent ops) (map component_form components) → AllByRecursion (λ (component : Component). HasStarts (component_form component)) components
each_start ops [] is = tt
each_start ops (component ∷ components) is = (component_starts ops (component_form component) is.0, each_start ops components is.1)

pub all_start : (ops : List OpSig) (components : List Component) → EachHas (IsComponent ops) (map component_form components) → All (λ (component : Component). HasStarts (component_form component)) components
all_start ops components is = All-from_recursion (λ (component : Component). HasStarts (component_form component)) components (each_start ops components is)

pub all_start_in : (ops : List OpSig) (components others : List Component) → others ≡ components → EachHas (IsComponent ops) (map component_form components)
    → All (λ (component : Component). HasStarts (component_form component)) others
all_start_in ops components others e is = subst (λ (cs : List Component). All (λ (component : Component). HasStarts (component_form component)) cs) (sym e) (all_start ops components is)

pub suits_in : (sig : Signature) (done : Done) → FitsSignature sig done → (components others : List Component) → others ≡ components → EachHas (IsComponent sig.ops) (map component_form components)
    → (parts old : List Part) → parts ≡ old → are_kin PartsKin old (states_of (map component_meaning (map component_form components)) []) → list_all is_roomy_part old ≡ true
    → SuitEach done parts (map component_form others)
suits_in sig done fits components others e is parts old f kin room =
    subst (λ (cs : List Component). SuitEach done parts (map component_form cs)) (sym e)
    (subst (λ (ps : List Part). SuitEach done ps (map component_form components)) (sym f) (suits_each sig done fits (map component_form components) is old kin room))
