-- What becomes of a part goes with it.
use Rattle.std.proofs.Common.{◌≡◌, ℕ, Bool, true, false, List, [], ◌∷◌, map, refl, sym, ◌∙◌, subst, cond, Option, None, Some}
use Rattle.std.specs.Prelude.{◌==◌}
use Rattle.std.specs.Cmp.{IsTotalOrder}
use Rattle.kat_num.specs.Orders.{value_order}
use Rattle.kat_num.specs.declared.values.Value.{Value}
use Rattle.kat_lattice.specs.Chains.{kin_left}
use Rattle.kat_lattice.specs.MapLaws.{map_laws}
use Rattle.kat_lattice.specs.Maps.{MapsKin, Table, at_key, maps_joined}
use Rattle.kat_lattice.specs.Sets.{TellsApart, set_laws}
use Rattle.kat_lattice.specs.Tallies.{IsTally, Sums, TalliesKin, tallies_joined, tally_laws}
use Rattle.kat_lattice.proofs.Readings.{maps_go}
use Rattle.kat_shape.specs.Flats.{filled_with}
use Rattle.kat_shape.specs.Forms.{CellForm}
use Rattle.kat_shape.specs.Laws.{cell_laws}
use Rattle.kat_shape.specs.Values.{Filled, OneShape, joined}
use Rattle.kat_type.specs.declared.done.Done.{Done}
use Rattle.kat_type.specs.declared.signatures.OpSig.{OpSig}
use Rattle.kat_design.specs.Denotations.{added_key, bumped_key, cell_added, component_meaning, keyed_weight, part_added, part_of, table_effects, tally_weight}
use Rattle.kat_design.specs.Designs.{ComponentForm}
use Rattle.kat_design.specs.Designs.ComponentForm.{a_cell, a_table, a_set, a_tally, tallies}
use Rattle.kat_design.specs.Effects.{cell_effects, effect_of, set_effects}
use Rattle.kat_design.specs.KeyedTallies.{bumped_at, single}
use Rattle.kat_design.specs.Meanings.{added_each, are_kin, states_of}
use Rattle.kat_design.specs.Parts.{PartsKin, part_joined, parts_joined}
use Rattle.kat_design.specs.Sorted.{EachHas, IsComponent}
use Rattle.kat_design.specs.Tallied.{bumped}
use Rattle.kat_design.specs.declared.designs.Leaf.{Leaf}
use Rattle.kat_design.specs.declared.states.Part.{Part}
use Rattle.kat_design.specs.declared.states.Part.TheVariants as part
use Rattle.kat_design.proofs.Instances.{cells_are, one_shape, sets_are}
use Rattle.kat_design.proofs.KeyedTallying.{not_empty}
use Rattle.kat_design.proofs.Tables.{tables_are}
use Rattle.kat_design.proofs.Tallies.{bumped_is, empty_is}
use Rattle.kat_replica.proofs.Filled.{good_form}
use Rattle.kat_replica.proofs.Tables.{single_is}

-- joins
joined_goes : IsTotalOrder value_order → (a b : Part) → PartsKin a b → PartsKin a (part_joined a b)
joined_goes o (part.Cell a) (part.Cell b) h = cell_laws.keeps a b h
joined_goes o (part.Table a) (part.Table b) h = (map_laws o cell_laws).keeps a b h
joined_goes o (part.Set a) (part.Set b) h = (set_laws o).keeps a b h
joined_goes o (part.Tally a) (part.Tally b) h = tally_laws.keeps a b h
joined_goes o (part.Tallies a) (part.Tallies b) h = (map_laws o tally_laws).keeps a b h
joined_goes o _ _ h = absurd h

each_goes : IsTotalOrder value_order → (xs ys : List Part) → are_kin PartsKin xs ys → are_kin PartsKin xs (parts_joined xs ys)
each_goes o [] [] h = tt
each_goes o [] (y ∷ ys) h = absurd h
each_goes o (x ∷ xs) [] h = absurd h
each_goes o (x ∷ xs) (y ∷ ys) h = (joined_goes o x y h.0, each_goes o xs ys h.1)

pub joins_go : IsTotalOrder value_order → (xs ys zs : List Part) → are_kin PartsKin xs ys → zs ≡ parts_joined xs ys → are_kin PartsKin xs zs
joins_go o xs ys zs h e = subst (λ (parts : List Part). are_kin PartsKin xs parts) (sym e) (each_goes o xs ys h)

-- cells
cell_goes : (shape : CellForm) (starts : List Value) (cell : Filled) (effect : Option (List Leaf)) (done : Done) → OneShape cell (filled_with shape starts) → OneShape cell (cell_added shape cell effect done)
cell_goes shape starts cell None done h = record { good = h.good; same = refl }
cell_goes shape starts cell (Some leaves) done h =
    cell_laws.keeps cell _ (cell_laws.kin_trans cell (filled_with shape starts) _ h (one_shape shape starts _ (good_form shape starts cell h)))

-- tallies by key
tallies_go : IsTotalOrder value_order → TellsApart value_order → (table start : Table Value Sums) (key : Value) (replica w : ℕ) (b : Bool) → (w == 0) ≡ b
    → MapsKin value_order TalliesKin tallies_joined table start → start.start ≡ []
    → MapsKin value_order TalliesKin tallies_joined table (cond b table (maps_joined value_order tallies_joined table (single key (bumped (at_key value_order table key) replica w))))
tallies_go o tells table start key replica w true e h s = kin_left (map_laws o tally_laws) table start h
tallies_go o tells table start key replica w false e h s =
    let tally : IsTally (at_key value_order table key) = (h.values key).left in
    let more = bumped (at_key value_order table key) replica w in
    let empty : table.start ≡ [] = h.starts ∙ s in
    let one = single_is key more (bumped_is (at_key value_order table key) replica w tally) (not_empty (at_key value_order table key) replica w tally e) in
    (map_laws o tally_laws).keeps table (single key more)
    (maps_go tally_laws table (single key more) tells h.left one empty (subst (λ (t : Sums). TalliesKin t t) (sym empty) (record { left = empty_is; right = empty_is })))

part_goes : IsTotalOrder value_order → TellsApart value_order → (ops : List OpSig) (component : ComponentForm) → IsComponent ops component → (p : Part) (done : Done)
    → PartsKin p (part_of component []) → PartsKin p (part_added component p done)
part_goes o tells ops (a_cell shape starts effects) is (part.Cell cell) done h = cell_goes shape starts cell (effect_of effects done) done h
part_goes o tells ops (a_table key shape starts effects) is (part.Table table) done h =
    (map_laws o cell_laws).keeps table _ ((map_laws o cell_laws).kin_trans table _ _ h ((tables_are o tells shape starts effects is.1).effect_kin done))
part_goes o tells ops (a_set key effects) is (part.Set keys) done h =
    (set_laws o).keeps keys _ ((set_laws o).kin_trans keys _ _ h ((sets_are value_order o tells (added_key effects)).effect_kin done))
part_goes o tells ops (a_tally effects) is (part.Tally sums) done h = record { left = h.left; right = bumped_is sums done.replica (tally_weight effects done) h.left }
part_goes o tells ops (tallies key effects) is (part.Tallies table) done h =
    tallies_go o tells table _ (bumped_key effects done) done.replica (keyed_weight effects done) (keyed_weight effects done == 0) refl h refl
part_goes o tells ops (a_cell shape starts effects) is _ done h = absurd h
part_goes o tells ops (a_table key shape starts effects) is _ done h = absurd h
part_goes o tells ops (a_set key effects) is _ done h = absurd h
part_goes o tells ops (a_tally effects) is _ done h = absurd h
part_goes o tells ops (tallies key effects) is _ done h = absurd h

each_added : IsTotalOrder value_order → TellsApart value_order → (ops : List OpSig) (components : List ComponentForm) → EachHas (IsComponent ops) components → (parts : List Part) (done : Done)
    → are_kin PartsKin parts (states_of (map component_meaning components) []) → are_kin PartsKin parts (added_each (map component_meaning components) parts done)
each_added o tells ops [] is [] done h = tt
each_added o tells ops [] is (p ∷ parts) done h = absurd h
each_added o tells ops (component ∷ components) is [] done h = absurd h
each_added o tells ops (component ∷ components) is (p ∷ parts) done h = (part_goes o tells ops component is.0 p done h.0, each_added o tells ops components is.1 parts done h.1)

pub added_goes : IsTotalOrder value_order → TellsApart value_order → (ops : List OpSig) (components : List ComponentForm) → EachHas (IsComponent ops) components → (parts more : List Part) (done : Done)
    → are_kin PartsKin parts (states_of (map component_meaning components) []) → more ≡ added_each (map component_meaning components) parts done → are_kin PartsKin parts more
added_goes o tells ops components is parts more done h e = subst (λ (new : List Part). are_kin PartsKin parts new) (sym e) (each_added o tells ops components is parts done h)
