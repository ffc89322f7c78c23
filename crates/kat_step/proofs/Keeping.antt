-- A state that a file can have, with an operation that makes no sum pass its limit, is one that a file can have.
use Rattle.std.proofs.Common.{◌≡◌, ℕ, ◌<◌, ◌≤◌, Bool, true, false, cond, List, [], ◌∷◌, ◌++◌, map, refl, sym, ◌∙◌, subst, ◌⊎◌, inl, inr, arith, Option, None, Some}
use Rattle.std.proofs.Math.Nat.{max-eq_left, max-eq_right}
use Rattle.std.proofs.lemmas.Bool.{cases_lt}
use Rattle.std.specs.Prelude.{◌||◌, ◌≢◌, int_lt, max, option_map}
use Rattle.std.specs.Ordering.{match_ordering}
use Rattle.std.specs.declared.cmp.Ordering.{Ordering}
use Rattle.std.specs.declared.cmp.Ordering.TheVariants.{Less, Equal, Greater}
use Rattle.kat_num.specs.Orders.{value_order}
use Rattle.kat_num.specs.declared.values.Sort.{Sort}
use Rattle.kat_num.specs.declared.values.Sort.TheVariants as sort
use Rattle.kat_num.specs.declared.values.Value.{Value}
use Rattle.kat_num.specs.declared.values.Value.TheVariants.{Num, Name}
use Rattle.kat_expr.specs.Slots.{argument}
use Rattle.kat_lattice.specs.Keyed.{on_value, by_key, union}
use Rattle.kat_lattice.specs.Maps.{Table}
use Rattle.kat_lattice.specs.Sets.{first_one, sets_joined}
use Rattle.kat_lattice.specs.Tallies.{Sums}
use Rattle.kat_shape.specs.Flats.{filled_with}
use Rattle.kat_shape.specs.Forms.{CellForm, IsGoodForm, leaf_kind_of, leaf_kinds_of}
use Rattle.kat_shape.specs.Laws.{shape_of-joined}
use Rattle.kat_shape.specs.Values.{Filled, a_number, a_name, a_truth, a_lex, a_pair, cells_compared, joined, leaves_of}
use Rattle.kat_shape.proofs.Filling.{filled_leaves, filled_shape}
use Rattle.kat_type.specs.declared.done.Done.{Done}
use Rattle.kat_type.specs.declared.signatures.Signature.{Signature}
use Rattle.kat_type.specs.Unions.{are_same_values}
use Rattle.kat_design.specs.Denotations.{bumped_key, cell_added, component_meaning, keyed_weight, part_added, table_effect}
use Rattle.kat_design.specs.Designs.{ComponentForm}
use Rattle.kat_design.specs.Designs.ComponentForm.{a_cell, a_table, a_set, a_tally, tallies}
use Rattle.kat_design.specs.Effects.{effect_of, key_alone, leaf_value}
use Rattle.kat_design.specs.Fitting.{FitsSignature}
use Rattle.kat_design.specs.KeyedTallies.{bumped_at}
use Rattle.kat_design.specs.Kinds.{kinds_of}
use Rattle.kat_design.specs.Meanings.{added_each, are_kin}
use Rattle.kat_design.specs.Parts.{PartsKin}
use Rattle.kat_design.specs.Sorted.{AreMatched, EachHas, FitsCell, FitsSet, FitsTable, FitsTallies, GivesKind, IsComponent, IsStart, IsWritten}
use Rattle.kat_design.specs.declared.designs.Leaf.{Leaf}
use Rattle.kat_design.specs.declared.states.Part.{Part}
use Rattle.kat_design.specs.declared.states.Part.TheVariants as part
use Rattle.kat_design.proofs.GivenLeaves.{gives_leaves}
use Rattle.kat_design.proofs.SmallDesigns.{starts_fit}
use Rattle.kat_node.specs.Nodes.{AreSums, IsCell, IsEntry, IsKey, IsPart}
use Rattle.kat_node.proofs.Leaves.{each_written}
use Rattle.kat_step.specs.Limits.{passes_in, passes_limit}
use Rattle.kat_step.proofs.Given.{key_given, matched_effect, values_written}
use Rattle.kat_step.proofs.Growing.{put_has, tallies_kept, tally_kept}

-- leaves of two lists
each_both : {A : Type 0} (P : A → Type 0) (xs ys : List A) → EachHas P xs → EachHas P ys → EachHas P (xs ++ ys)
each_both P [] ys h k = k
each_both P (x ∷ xs) ys h k = (h.0, each_both P xs ys h.1 k)

each_first : {A : Type 0} (P : A → Type 0) (xs ys : List A) → EachHas P (xs ++ ys) → EachHas P xs
each_first P [] ys h = tt
each_first P (x ∷ xs) ys h = (h.0, each_first P xs ys h.1)

each_second : {A : Type 0} (P : A → Type 0) (xs ys : List A) → EachHas P (xs ++ ys) → EachHas P ys
each_second P [] ys h = h
each_second P (x ∷ xs) ys h = each_second P xs ys h.1

one_of : {A : Type 0} (P : A → Type 0) (b : Bool) (x y : A) → P x → P y → P (cond b x y)
one_of P true x y h k = h
one_of P false x y h k = k

one_of_three : {A : Type 0} (P : A → Type 0) (o : Ordering) (x y z : A) → P x → P y → P z → P (match_ordering o x y z)
one_of_three P Less x y z h k l = h
one_of_three P Equal x y z h k l = k
one_of_three P Greater x y z h k l = l

max_by : (P : ℕ → Type 0) (x y : ℕ) → (x < y) ⊎ (y ≤ x) → P x → P y → P (max x y)
max_by P x y (inl less) h k = subst P (sym (max-eq_right (let l = less in omega (arith, l)))) k
max_by P x y (inr most) h k = subst P (sym (max-eq_left most)) h

max_written : (x y : ℕ) → IsWritten (Name x) → IsWritten (Name y) → IsWritten (Name (max x y))
max_written x y h k = max_by (λ n. IsWritten (Name n)) x y (cases_lt x y) h k

-- the leaves of a join are written
leaves_joined : (a b : Filled) → EachHas IsWritten (leaves_of a) → EachHas IsWritten (leaves_of b) → EachHas IsWritten (leaves_of (joined a b))
leaves_joined (a_number x) (a_number y) h k = (one_of (λ z. IsWritten (Num z)) (int_lt y x) x y h.0 k.0, tt)
leaves_joined (a_name x) (a_name y) h k = (max_written x y h.0 k.0, tt)
leaves_joined (a_truth x) (a_truth y) h k = (tt, tt)
leaves_joined (a_lex a b) (a_lex c d) h k =
    let mine = each_both IsWritten (leaves_of a) (leaves_of b) (each_first IsWritten (leaves_of a) (leaves_of b) h) (each_second IsWritten (leaves_of a) (leaves_of b) h) in
    let inner = leaves_joined b d (each_second IsWritten (leaves_of a) (leaves_of b) h) (each_second IsWritten (leaves_of c) (leaves_of d) k) in
    one_of_three (λ (v : Filled). EachHas IsWritten (leaves_of v)) (cells_compared a c) (a_lex c d) (a_lex a (joined b d)) (a_lex a b) k
    (each_both IsWritten (leaves_of a) (leaves_of (joined b d)) (each_first IsWritten (leaves_of a) (leaves_of b) h) inner) mine
leaves_joined (a_pair a b) (a_pair c d) h k =
    each_both IsWritten (leaves_of (joined a c)) (leaves_of (joined b d))
    (leaves_joined a c (each_first IsWritten (leaves_of a) (leaves_of b) h) (each_first IsWritten (leaves_of c) (leaves_of d) k))
    (leaves_joined b d (each_second IsWritten (leaves_of a) (leaves_of b) h) (each_second IsWritten (leaves_of c) (leaves_of d) k))
leaves_joined a _ h k = h

cell_joined : (shape : CellForm) (a b : Filled) → IsGoodForm shape → IsCell shape a → IsCell shape b → IsCell shape (joined a b)
cell_joined shape a b good h k = record {
  shaped = shape_of-joined a b (record { good = subst IsGoodForm (sym h.shaped) good; same = h.shaped ∙ sym k.shaped }) ∙ h.shaped;
  written = leaves_joined a b h.written k.written;
}

filled_cell : (shape : CellForm) (vs : List Value) → map leaf_kind_of vs ≡ leaf_kinds_of shape → EachHas IsWritten vs → IsCell shape (filled_with shape vs)
filled_cell shape vs fit each = record { shaped = filled_shape shape vs; written = subst (EachHas IsWritten) (sym (filled_leaves shape vs fit)) each }

pub start_cell : (shape : CellForm) (starts : List Value) → AreMatched IsStart starts (kinds_of shape) → IsCell shape (filled_with shape starts)
start_cell shape starts h = filled_cell shape starts (starts_fit shape starts h) (each_written starts (kinds_of shape) h)

-- what an operation gives to a cell
given_cell : (sig : Signature) (done : Done) (fits : FitsSignature sig done) (shape : CellForm) (leaves : List Leaf) → AreMatched (GivesKind fits.op.sorts) leaves (kinds_of shape)
    → IsCell shape (filled_with shape (map (leaf_value done) leaves))
given_cell sig done fits shape leaves h = filled_cell shape (map (leaf_value done) leaves) (gives_leaves done fits.op.sorts fits.args shape leaves h) (values_written sig done fits leaves (kinds_of shape) h)

cell_kept : (sig : Signature) (done : Done) (fits : FitsSignature sig done) (shape : CellForm) (cell : Filled) (effect : Option (List Leaf)) → IsGoodForm shape → FitsCell (kinds_of shape) effect fits.op → IsCell shape cell
    → IsCell shape (cell_added shape cell effect done)
cell_kept sig done fits shape cell None good h is = is
cell_kept sig done fits shape cell (Some leaves) good h is = cell_joined shape cell (filled_with shape (map (leaf_value done) leaves)) good is (given_cell sig done fits shape leaves h)

-- a table
joined_entries : (key : Sort) (shape : CellForm) (entries : List (Value × Filled)) (k : Value) (v : Filled) (b : Bool) → IsGoodForm shape → EachHas (IsEntry key (IsCell shape)) entries → IsKey key k → IsCell shape v
    → EachHas (IsEntry key (IsCell shape)) (union (by_key value_order) (on_value joined) entries (cond b [] ((k, v) ∷ [])))
joined_entries key shape entries k v true good each is cell = each
joined_entries key shape entries k v false good each is cell =
    put_has (by_key value_order) (on_value joined) (IsEntry key (IsCell shape)) (k, v) (is, cell) (λ x h. (h.0, cell_joined shape x.1 v good h.1 cell)) entries each

table_kept : (sig : Signature) (done : Done) (fits : FitsSignature sig done) (key : Sort) (shape : CellForm) (starts : List Value) (entries : List (Value × Filled)) (effect : Option (ℕ × List Leaf)) → key ≢ sort.Bool
    → IsGoodForm shape → AreMatched IsStart starts (kinds_of shape) → FitsTable key (kinds_of shape) effect fits.op → EachHas (IsEntry key (IsCell shape)) entries
    → EachHas (IsEntry key (IsCell shape)) (union (by_key value_order) (on_value joined) entries (table_effect shape starts effect done).entries)
table_kept sig done fits key shape starts entries None other good start h each = each
table_kept sig done fits key shape starts entries (Some effect) other good start h each =
    let begin = filled_with shape starts in
    let value = filled_with shape (map (leaf_value done) effect.1) in
    joined_entries key shape entries (argument done.args effect.0) (joined begin value) (are_same_values (leaves_of (joined begin value)) (leaves_of begin)) good each
    (key_given sig done fits key effect.0 other h.0) (cell_joined shape begin value good (start_cell shape starts start) (given_cell sig done fits shape effect.1 h.1))

-- a set
set_kept : (sig : Signature) (done : Done) (fits : FitsSignature sig done) (key : Sort) (keys : List Value) (effect : Option ℕ) → key ≢ sort.Bool → FitsSet key effect fits.op → EachHas (IsKey key) keys
    → EachHas (IsKey key) (sets_joined value_order keys (key_alone (option_map (argument done.args) effect)))
set_kept sig done fits key keys None other h each = each
set_kept sig done fits key keys (Some place) other h each =
    put_has value_order first_one (IsKey key) (argument done.args place) (key_given sig done fits key place other h) (λ x k. k) keys each

-- tallies by key
keyed : (sig : Signature) (done : Done) (fits : FitsSignature sig done) (key : Sort) (effect : Option (ℕ × Leaf)) → key ≢ sort.Bool → FitsTallies key effect fits.op
    → (found : ℕ × Leaf) → effect ≡ Some found → IsKey key (argument done.args found.0)
keyed sig done fits key None other h found e = absurd cc
keyed sig done fits key (Some effect) other h found e =
    let same : effect ≡ found = cc in
    subst (λ (one : ℕ × Leaf). IsKey key (argument done.args one.0)) same (key_given sig done fits key effect.0 other h.0)

tallies_step : (sig : Signature) (done : Done) (fits : FitsSignature sig done) (key : Sort) (effects : List (Option (ℕ × Leaf))) (entries : List (Value × Sums)) → key ≢ sort.Bool
    → AreMatched (FitsTallies key) effects sig.ops → EachHas (IsEntry key AreSums) entries → passes_in (tallies key effects) (part.Tallies (record { start = []; entries = entries })) done ≡ false
    → EachHas (IsEntry key AreSums) (bumped_at value_order (record { start = []; entries = entries }) (bumped_key effects done) done.replica (keyed_weight effects done)).entries
tallies_step sig done fits key effects entries other h each within =
    tallies_kept key (effect_of effects done) entries done each fits.numbered fits.few
    (keyed sig done fits key (effect_of effects done) other (matched_effect (FitsTallies key) sig done fits effects h)) within

tallies_each : (sig : Signature) (done : Done) (fits : FitsSignature sig done) (key : Sort) (effects : List (Option (ℕ × Leaf))) (table : Table Value Sums) → key ≢ sort.Bool
    → AreMatched (FitsTallies key) effects sig.ops → table.start ≡ [] → EachHas (IsEntry key AreSums) table.entries → passes_in (tallies key effects) (part.Tallies table) done ≡ false
    → EachHas (IsEntry key AreSums) (bumped_at value_order table (bumped_key effects done) done.replica (keyed_weight effects done)).entries
tallies_each sig done fits key effects table other h none each within =
    let same : ◌≡◌ {A = Table Value Sums} (record { start = []; entries = table.entries }) table = λ i. record { start = sym none i; entries = table.entries } in
    subst (λ (t : Table Value Sums). passes_in (tallies key effects) (part.Tallies t) done ≡ false → EachHas (IsEntry key AreSums) (bumped_at value_order t (bumped_key effects done) done.replica (keyed_weight effects done)).entries)
    same (λ w. tallies_step sig done fits key effects table.entries other h each w) within

-- parts
part_kept : (sig : Signature) (done : Done) (fits : FitsSignature sig done) (component : ComponentForm) → IsComponent sig.ops component → (p : Part) → IsPart component p
    → PartsKin p (part_added component p done) → passes_in component p done ≡ false → IsPart component (part_added component p done)
part_kept sig done fits (a_cell shape starts effects) is (part.Cell cell) h kin within =
    cell_kept sig done fits shape cell (effect_of effects done) is.0 (matched_effect (FitsCell (kinds_of shape)) sig done fits effects is.2) h
part_kept sig done fits (a_table key shape starts effects) is (part.Table table) h kin within = record {
  start_is = h.start_is;
  map_is = kin.right;
  each = table_kept sig done fits key shape starts table.entries (effect_of effects done) is.0 is.1 is.2 (matched_effect (FitsTable key (kinds_of shape)) sig done fits effects is.3) h.each;
}
part_kept sig done fits (a_set key effects) is (part.Set keys) h kin within = record {
  ascending = kin.right;
  each = set_kept sig done fits key keys (effect_of effects done) is.0 (matched_effect (FitsSet key) sig done fits effects is.1) h.each;
}
part_kept sig done fits (a_tally effects) is (part.Tally sums) h kin within = tally_kept (effect_of effects done) sums done h fits.numbered fits.few within
part_kept sig done fits (tallies key effects) is (part.Tallies table) h kin within = record {
  start_is = sym kin.starts ∙ h.start_is;
  map_is = kin.right;
  each = tallies_each sig done fits key effects table is.0 is.1 h.start_is h.each within;
}
part_kept sig done fits (a_cell shape starts effects) is _ h kin within = absurd h
part_kept sig done fits (a_table key shape starts effects) is _ h kin within = absurd h
part_kept sig done fits (a_set key effects) is _ h kin within = absurd h
part_kept sig done fits (a_tally effects) is _ h kin within = absurd h
part_kept sig done fits (tallies key effects) is _ h kin within = absurd h

first_false : (a b : Bool) → (a || b) ≡ false → (a ≡ false) × (b ≡ false)
first_false true b e = absurd cc
first_false false b e = (refl, e)

pub parts_kept : (sig : Signature) (done : Done) (fits : FitsSignature sig done) (components : List ComponentForm) → EachHas (IsComponent sig.ops) components → (parts : List Part)
    → AreMatched IsPart components parts → are_kin PartsKin parts (added_each (map component_meaning components) parts done) → passes_limit components parts done ≡ false
    → AreMatched IsPart components (added_each (map component_meaning components) parts done)
parts_kept sig done fits [] is [] h kin within = tt
parts_kept sig done fits [] is (p ∷ parts) h kin within = absurd h
parts_kept sig done fits (component ∷ components) is [] h kin within = absurd h
parts_kept sig done fits (component ∷ components) is (p ∷ parts) h kin within =
    let both = first_false (passes_in component p done) (passes_limit components parts done) within in
    (part_kept sig done fits component is.0 p h.0 kin.0 both.0, parts_kept sig done fits components is.1 parts h.1 kin.1 both.1)
