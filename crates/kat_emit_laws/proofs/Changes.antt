-- What changes, part by part.
use Rattle.std.proofs.Common.{◌≡◌, ℕ, suc, ◌+◌, Bool, true, false, cond, List, [], ◌∷◌, length, map, refl, sym, ◌∙◌, ap, subst, arith, Option, None, Some}
use Rattle.std.specs.Prelude.{IfSome, option_map}
use Rattle.std.specs.Cmp.{IsTotalOrder}
use Rattle.kat_num.specs.Orders.{value_order}
use Rattle.kat_num.specs.declared.values.Sort.{Sort}
use Rattle.kat_num.specs.declared.values.Value.{Value}
use Rattle.kat_expr.specs.Slots.{argument}
use Rattle.kat_lattice.specs.Maps.{MapsKin, Table, maps_joined}
use Rattle.kat_lattice.specs.Sets.{sets_joined}
use Rattle.kat_lattice.specs.Tallies.{IsTally, Sums, TalliesKin, tallies_joined}
use Rattle.kat_shape.specs.Flats.{filled_with}
use Rattle.kat_shape.specs.Forms.{CellForm, truths}
use Rattle.kat_shape.specs.Values.{Filled, joined, shape_of}
use Rattle.kat_type.specs.declared.done.Done.{Done}
use Rattle.kat_type.specs.declared.signatures.Signature.{Signature}
use Rattle.kat_design.specs.Denotations.{alone_at, cell_added, component_meaning, key_given, part_of, weight_of}
use Rattle.kat_design.specs.Designs.{ComponentForm}
use Rattle.kat_design.specs.Designs.ComponentForm.{a_cell, a_table, a_set, a_tally, tallies}
use Rattle.kat_design.specs.Effects.{effect_of, key_alone, leaf_value}
use Rattle.kat_design.specs.Fitting.{FitsSignature}
use Rattle.kat_design.specs.KeyedTallies.{bumped_at}
use Rattle.kat_design.specs.Kinds.{kinds_of}
use Rattle.kat_design.specs.Meanings.{are_kin, states_of}
use Rattle.kat_design.specs.Parts.{PartsKin}
use Rattle.kat_design.specs.Sorted.{EachHas, FitsCell, FitsTable, IsComponent}
use Rattle.kat_design.specs.Tallied.{bumped}
use Rattle.kat_design.specs.declared.designs.Leaf.{Leaf}
use Rattle.kat_design.specs.declared.designs.Leaf.TheVariants as leaf
use Rattle.kat_design.specs.declared.states.Part.{Part}
use Rattle.kat_design.specs.declared.states.Part.TheVariants as part
use Rattle.kat_design.proofs.GivenLeaves.{gives_leaves}
use Rattle.kat_replica.specs.Suiting.{GivesLeaves, part_with, parts_with, table_with}
use Rattle.kat_replica.proofs.Filled.{same_form, table_form}
use Rattle.kat_step.proofs.Given.{matched_effect}
use Rattle.kat_emit.specs.Statements.{Stated, cell_change, change_of, growth_of, is_vain, is_zero, puts, set_change, sums_change, table_change, tallies_growth, tally_growth}
use Rattle.kat_emit_laws.specs.Meanings.{done_at, doing, runs, with_inserted, with_kept, with_own, with_own_at, with_put}
use Rattle.kat_emit_laws.proofs.Followed.{all_changed, changed}
use Rattle.kat_emit_laws.proofs.Growths.{Held, HeldAt}
use Rattle.kat_emit_laws.proofs.Owned.{own_grown, own_grown_at}
use Rattle.kat_emit_laws.proofs.Vain.{vain_cell, vain_is, vain_shape, vain_table, zero_is}

-- the parts before, of which the last comes first, and those from there on
abbrev pub unto : List Part → List Part → List Part
unto [] ps = ps
unto (x ∷ front) ps = unto front (x ∷ ps)

no_more : (k : ℕ) → 0 + k ≡ k
no_more k = omega arith

one_more : (n k : ℕ) → suc n + k ≡ n + suc k
one_more n k = omega arith

and_none : (n : ℕ) → n ≡ n + 0
and_none n = omega arith

at_end : (f : Part → Part) (front : List Part) (k : ℕ) (ys : List Part) → done_at f (length front + k) (unto front ys) ≡ unto front (done_at f k ys)
at_end f [] k ys = ap (λ n. done_at f n ys) (no_more k)
at_end f (x ∷ front) k ys = ap (λ n. done_at f n (unto front (x ∷ ys))) (one_more (length front) k) ∙ at_end f front (suc k) (x ∷ ys)

at_place : (f : Part → Part) (front : List Part) (p : Part) (ps : List Part) → done_at f (length front) (unto front (p ∷ ps)) ≡ unto front (f p ∷ ps)
at_place f front p ps = ap (λ n. done_at f n (unto front (p ∷ ps))) (and_none (length front)) ∙ at_end f front 0 (p ∷ ps)

-- where statements are done: the checks, the clock, the operation, the sums, the parts before, and those after them
record Scene : Type 0 where
  passes : ℕ → Bool
  clock : ℕ
  one : Done
  sums : ℕ → ℕ
  front : List Part
  ps : List Part

-- a change makes q of p
abbrev Makes : Scene → List Stated → Option Stated → Part → Part → Type 0
Makes s more change p q =
    runs s.passes (changed change more) (doing s.clock (unto s.front (p ∷ s.ps)) s.one s.sums) ≡ runs s.passes more (doing s.clock (unto s.front (q ∷ s.ps)) s.one s.sums)

stays : (s : Scene) (more : List Stated) (p q : Part) → p ≡ q → Makes s more None p q
stays s more p q e = ap (λ (x : Part). runs s.passes more (doing s.clock (unto s.front (x ∷ s.ps)) s.one s.sums)) e

turns : (s : Scene) (more : List Stated) (f : Part → Part) (p q : Part) → f p ≡ q
    → runs s.passes more (doing s.clock (done_at f (length s.front) (unto s.front (p ∷ s.ps))) s.one s.sums) ≡ runs s.passes more (doing s.clock (unto s.front (q ∷ s.ps)) s.one s.sums)
turns s more f p q e =
    ap (λ (parts : List Part). runs s.passes more (doing s.clock parts s.one s.sums)) (at_place f s.front p s.ps ∙ ap (λ (x : Part). unto s.front (x ∷ s.ps)) e)

-- cells
vain_form : (shape : CellForm) (one : Done) (leaves : List Leaf) → leaves ≡ leaf.False ∷ [] → GivesLeaves shape one leaves → shape ≡ truths
vain_form shape one leaves e gives = vain_shape shape (subst (λ (ls : List Leaf). GivesLeaves shape one ls) e gives)

cell_by : (s : Scene) (more : List Stated) (cell : Filled) (leaves : List Leaf) (b : Bool) → is_vain leaves ≡ b → GivesLeaves (shape_of cell) s.one leaves
    → Makes s more (cond b None (Some (puts (length s.front) None leaves))) (part.Cell cell) (part.Cell (cell_added (shape_of cell) cell (Some leaves) s.one))
cell_by s more cell leaves true e gives =
    let vain : leaves ≡ leaf.False ∷ [] = vain_is leaves e in
    let same : cell_added (shape_of cell) cell (Some leaves) s.one ≡ cell =
    ap (λ (ls : List Leaf). joined cell (filled_with (shape_of cell) (map (leaf_value s.one) ls))) vain ∙ vain_cell cell (vain_form (shape_of cell) s.one leaves vain gives) in
    stays s more (part.Cell cell) (part.Cell (cell_added (shape_of cell) cell (Some leaves) s.one)) (ap part.Cell (sym same))
cell_by s more cell leaves false e gives =
    turns s more (with_put None leaves s.one) (part.Cell cell) (part.Cell (cell_added (shape_of cell) cell (Some leaves) s.one)) refl

cell_makes : (s : Scene) (more : List Stated) (cell : Filled) (effect : Option (List Leaf)) → IfSome effect (GivesLeaves (shape_of cell) s.one)
    → Makes s more (cell_change (length s.front) effect) (part.Cell cell) (part.Cell (cell_added (shape_of cell) cell effect s.one))
cell_makes s more cell None gives = refl
cell_makes s more cell (Some leaves) gives = cell_by s more cell leaves (is_vain leaves) refl gives

-- tables
table_by : (s : Scene) (more : List Stated) (table : Table Value Filled) (effect : ℕ × List Leaf) (b : Bool) → is_vain effect.1 ≡ b → GivesLeaves (shape_of table.start) s.one effect.1
    → Makes s more (cond b None (Some (puts (length s.front) (Some effect.0) effect.1))) (part.Table table) (part.Table (table_with (shape_of table.start) table (Some effect) s.one))
table_by s more table effect true e gives =
    let key = argument s.one.args effect.0 in
    let vain : effect.1 ≡ leaf.False ∷ [] = vain_is effect.1 e in
    let same : table_with (shape_of table.start) table (Some effect) s.one ≡ table =
    ap (λ (ls : List Leaf). maps_joined value_order joined table (alone_at table.start key (filled_with (shape_of table.start) (map (leaf_value s.one) ls)))) vain
    ∙ vain_table table key (vain_form (shape_of table.start) s.one effect.1 vain gives) in
    stays s more (part.Table table) (part.Table (table_with (shape_of table.start) table (Some effect) s.one)) (ap part.Table (sym same))
table_by s more table effect false e gives =
    turns s more (with_put (Some effect.0) effect.1 s.one) (part.Table table) (part.Table (table_with (shape_of table.start) table (Some effect) s.one)) refl

table_makes : (s : Scene) (more : List Stated) (table : Table Value Filled) (effect : Option (ℕ × List Leaf)) → IfSome effect (λ (e : ℕ × List Leaf). GivesLeaves (shape_of table.start) s.one e.1)
    → Makes s more (table_change (length s.front) effect) (part.Table table) (part.Table (table_with (shape_of table.start) table effect s.one))
table_makes s more table None gives = refl
table_makes s more table (Some effect) gives = table_by s more table effect (is_vain effect.1) refl gives

-- sets
set_makes : (s : Scene) (more : List Stated) (keys : List Value) (effect : Option ℕ)
    → Makes s more (set_change (length s.front) effect) (part.Set keys) (part.Set (sets_joined value_order keys (key_alone (option_map (argument s.one.args) effect))))
set_makes s more keys None = refl
set_makes s more keys (Some key) =
    turns s more (with_inserted key s.one) (part.Set keys) (part.Set (sets_joined value_order keys (key_alone (Some (argument s.one.args key))))) refl

-- sums
weightless : (one : Done) (w : Leaf) → w ≡ leaf.Zero → weight_of (Some w) one ≡ 0
weightless one w e = ap (λ (l : Leaf). weight_of (Some l) one) e

tally_by : (s : Scene) (more : List Stated) (sums : Sums) (w : Leaf) (b : Bool) → is_zero w ≡ b → IsTally sums → HeldAt (cond b None (Some (None, w))) (part.Tally sums) s.one (s.sums (length s.front))
    → Makes s more (sums_change (length s.front) (cond b None (Some (None, w)))) (part.Tally sums) (part.Tally (bumped sums s.one.replica (weight_of (Some w) s.one)))
tally_by s more sums w true e h held =
    stays s more (part.Tally sums) (part.Tally (bumped sums s.one.replica (weight_of (Some w) s.one)))
    (ap (λ n. part.Tally (bumped sums s.one.replica n)) (sym (weightless s.one w (zero_is w e))))
tally_by s more sums w false e h held =
    turns s more (with_kept None (s.sums (length s.front)) s.one) (part.Tally sums) (part.Tally (bumped sums s.one.replica (weight_of (Some w) s.one)))
    (ap part.Tally (ap (λ n. with_own sums s.one.replica n) held ∙ own_grown sums s.one.replica (weight_of (Some w) s.one) h))

tally_makes : (s : Scene) (more : List Stated) (sums : Sums) (effect : Option Leaf) → IsTally sums → HeldAt (tally_growth effect) (part.Tally sums) s.one (s.sums (length s.front))
    → Makes s more (sums_change (length s.front) (tally_growth effect)) (part.Tally sums) (part.Tally (bumped sums s.one.replica (weight_of effect s.one)))
tally_makes s more sums None h held = refl
tally_makes s more sums (Some w) h held = tally_by s more sums w (is_zero w) refl h held

abbrev empty_tallies : Table Value Sums
empty_tallies = record { start = []; entries = [] }

tallies_by : IsTotalOrder value_order → (s : Scene) (more : List Stated) (table : Table Value Sums) (key : ℕ) (w : Leaf) (b : Bool) → is_zero w ≡ b → MapsKin value_order TalliesKin tallies_joined table empty_tallies
    → HeldAt (cond b None (Some (Some key, w))) (part.Tallies table) s.one (s.sums (length s.front))
    → Makes s more (sums_change (length s.front) (cond b None (Some (Some key, w)))) (part.Tallies table)
    (part.Tallies (bumped_at value_order table (argument s.one.args key) s.one.replica (weight_of (Some w) s.one)))
tallies_by total s more table key w true e kin held =
    stays s more (part.Tallies table) (part.Tallies (bumped_at value_order table (argument s.one.args key) s.one.replica (weight_of (Some w) s.one)))
    (ap (λ n. part.Tallies (bumped_at value_order table (argument s.one.args key) s.one.replica n)) (sym (weightless s.one w (zero_is w e))))
tallies_by total s more table key w false e kin held =
    turns s more (with_kept (Some key) (s.sums (length s.front)) s.one) (part.Tallies table) (part.Tallies (bumped_at value_order table (argument s.one.args key) s.one.replica (weight_of (Some w) s.one)))
    (ap part.Tallies (ap (λ n. with_own_at table (argument s.one.args key) s.one.replica n) held
    ∙ own_grown_at total table (argument s.one.args key) s.one.replica (weight_of (Some w) s.one) kin))

tallies_make : IsTotalOrder value_order → (s : Scene) (more : List Stated) (table : Table Value Sums) (effect : Option (ℕ × Leaf)) → MapsKin value_order TalliesKin tallies_joined table empty_tallies
    → HeldAt (tallies_growth effect) (part.Tallies table) s.one (s.sums (length s.front))
    → Makes s more (sums_change (length s.front) (tallies_growth effect)) (part.Tallies table)
    (part.Tallies (bumped_at value_order table (key_given effect s.one) s.one.replica (weight_of (option_map (λ (e : ℕ × Leaf). e.1) effect) s.one)))
tallies_make total s more table None kin held = refl
tallies_make total s more table (Some effect) kin held = tallies_by total s more table effect.0 effect.1 (is_zero effect.1) refl kin held

-- what an operation that fits gives
cell_gives : (sig : Signature) (one : Done) (fits : FitsSignature sig one) (shape : CellForm) (effect : Option (List Leaf)) → FitsCell (kinds_of shape) effect fits.op → IfSome effect (GivesLeaves shape one)
cell_gives sig one fits shape None h = tt
cell_gives sig one fits shape (Some leaves) h = gives_leaves one fits.op.sorts fits.args shape leaves h

table_gives : (sig : Signature) (one : Done) (fits : FitsSignature sig one) (key : Sort) (shape : CellForm) (effect : Option (ℕ × List Leaf)) → FitsTable key (kinds_of shape) effect fits.op
    → IfSome effect (λ (e : ℕ × List Leaf). GivesLeaves shape one e.1)
table_gives sig one fits key shape None h = tt
table_gives sig one fits key shape (Some effect) h = gives_leaves one fits.op.sorts fits.args shape effect.1 h.1

part_makes : IsTotalOrder value_order → (sig : Signature) (s : Scene) (fits : FitsSignature sig s.one) (more : List Stated) (component : ComponentForm) (p : Part) → IsComponent sig.ops component → PartsKin p (part_of component [])
    → HeldAt (growth_of component s.one.op) p s.one (s.sums (length s.front)) → Makes s more (change_of (length s.front) component s.one.op) p (part_with p component s.one)
part_makes total sig s fits more (a_cell shape starts effects) (part.Cell cell) is kin held =
    cell_makes s more cell (effect_of effects s.one) (subst (λ (f : CellForm). IfSome (effect_of effects s.one) (GivesLeaves f s.one)) (sym (same_form shape starts cell kin))
    (cell_gives sig s.one fits shape (effect_of effects s.one) (matched_effect (FitsCell (kinds_of shape)) sig s.one fits effects is.2)))
part_makes total sig s fits more (a_table key shape starts effects) (part.Table table) is kin held =
    table_makes s more table (effect_of effects s.one)
    (subst (λ (f : CellForm). IfSome (effect_of effects s.one) (λ (e : ℕ × List Leaf). GivesLeaves f s.one e.1)) (sym (table_form shape starts table kin))
    (table_gives sig s.one fits key shape (effect_of effects s.one) (matched_effect (FitsTable key (kinds_of shape)) sig s.one fits effects is.3)))
part_makes total sig s fits more (a_set key effects) (part.Set keys) is kin held = set_makes s more keys (effect_of effects s.one)
part_makes total sig s fits more (a_tally effects) (part.Tally sums) is kin held = tally_makes s more sums (effect_of effects s.one) kin.left held
part_makes total sig s fits more (tallies key effects) (part.Tallies table) is kin held = tallies_make total s more table (effect_of effects s.one) kin held
part_makes total sig s fits more (a_cell shape starts effects) _ is kin held = absurd kin
part_makes total sig s fits more (a_table key shape starts effects) _ is kin held = absurd kin
part_makes total sig s fits more (a_set key effects) _ is kin held = absurd kin
part_makes total sig s fits more (a_tally effects) _ is kin held = absurd kin
part_makes total sig s fits more (tallies key effects) _ is kin held = absurd kin

pub change_all : IsTotalOrder value_order → (sig : Signature) (one : Done) → FitsSignature sig one → (passes : ℕ → Bool) (clock : ℕ) (sums : ℕ → ℕ) (more : List Stated) (components : List ComponentForm) (front ps : List Part)
    → EachHas (IsComponent sig.ops) components → are_kin PartsKin ps (states_of (map component_meaning components) []) → Held sums (length front) components ps one
    → runs passes (all_changed (length front) components one.op more) (doing clock (unto front ps) one sums) ≡ runs passes more (doing clock (unto front (parts_with ps components one)) one sums)
change_all total sig one fits passes clock sums more [] front [] is kin held = refl
change_all total sig one fits passes clock sums more [] front (p ∷ ps) is kin held = absurd kin
change_all total sig one fits passes clock sums more (component ∷ components) front [] is kin held = absurd kin
change_all total sig one fits passes clock sums more (component ∷ components) front (p ∷ ps) is kin held =
    let s : Scene = record { passes = passes; clock = clock; one = one; sums = sums; front = front; ps = ps } in
    part_makes total sig s fits (all_changed (suc (length front)) components one.op more) component p is.0 kin.0 held.0
    ∙ change_all total sig one fits passes clock sums more components (part_with p component one ∷ front) ps is.1 kin.1 held.1
