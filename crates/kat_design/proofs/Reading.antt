-- What the parts of a denotation say at each key and of each replica.
use Rattle.std.proofs.Common.{◌≡◌, ℕ, zero, suc, ◌+◌, Bool, true, false, List, [], ◌∷◌, refl, sym, ◌∙◌, ap, cond, map, Option, None, Some, arith}
use Rattle.std.specs.Prelude.{◌==◌, ◌||◌, option_map, slice_get}
use Rattle.std.specs.Cmp.{IsTotalOrder}
use Rattle.std.specs.List.{list_any}
use Rattle.std.specs.Option.{is_some, option_flatten}
use Rattle.std.specs.Ordering.{is_eq}
use Rattle.kat_num.specs.Orders.{value_order}
use Rattle.kat_num.specs.declared.values.Value.{Value}
use Rattle.kat_expr.specs.Slots.{argument}
use Rattle.kat_lattice.specs.Keyed.{value_or}
use Rattle.kat_lattice.specs.Maps.{Table, at_key}
use Rattle.kat_lattice.specs.MapLaws.{at_key-joined}
use Rattle.kat_lattice.specs.Sets.{TellsApart, has_key}
use Rattle.kat_lattice.specs.Tallies.{sum_of}
use Rattle.kat_lattice.proofs.Readings.{union_has_both}
use Rattle.kat_shape.specs.Flats.{filled_with}
use Rattle.kat_shape.specs.Forms.{CellForm, IsGoodForm}
use Rattle.kat_shape.specs.Laws.{cell_laws}
use Rattle.kat_shape.specs.Values.{Filled, OneShape, joined, leaves_of}
use Rattle.kat_shape.proofs.ByLeaves.{leaves_determine}
use Rattle.kat_type.specs.declared.done.Done.{Done}
use Rattle.kat_design.specs.Denotations.{added_key, bumped_key, key_given, keyed_weight, table_effect, table_effects, tally_weight, weight_of}
use Rattle.kat_design.specs.Effects.{cell_effect, cell_effects, effect_of, key_alone, leaf_value, set_effects}
use Rattle.kat_design.specs.KeyedTallies.{weight_at}
use Rattle.kat_design.specs.Meanings.{denotation}
use Rattle.kat_design.specs.Readings.{KeyedTalliesSum, SetsHaveAdded, TablesAreCells, TalliesSum, given_at, is_given, key_of_effect, leaves_given}
use Rattle.kat_design.specs.Tallied.{share, sum_done, total}
use Rattle.kat_type.specs.Unions.{are_same_values}
use Rattle.kat_design.specs.declared.designs.Leaf.{Leaf}
use Rattle.kat_design.proofs.Instances.{cells_are, one_shape, sets_are}
use Rattle.kat_design.proofs.Joining.{both-kin, start-joined, start-kin-denotation}
use Rattle.kat_design.proofs.KeyedTallying.{table_reads}
use Rattle.kat_type.proofs.Same.{same-values}
use Rattle.kat_design.proofs.Tables.{tables_are}
use Rattle.kat_design.proofs.Tallies.{tally_sum}

-- the effect of a list of changed effects is the changed effect
flat_map : {A B : Type 0} (f : A → B) (effects : List (Option A)) (op : ℕ) → option_flatten (slice_get (map (option_map f) effects) op) ≡ option_map f (option_flatten (slice_get effects op))
flat_map f [] op = refl
flat_map f (effect ∷ effects) zero = refl
flat_map f (effect ∷ effects) (suc op) = flat_map f effects op

abbrev second : ℕ × List Leaf → List Leaf
second effect = effect.1

leaves_of_effect : (effects : List (Option (ℕ × List Leaf))) (one : Done) → effect_of (leaves_given effects) one ≡ option_map second (effect_of effects one)
leaves_of_effect effects one = flat_map second effects one.op

-- a value that is joined to the start at one key
not_changed : (start v : Filled) → OneShape start v → are_same_values (leaves_of (joined start v)) (leaves_of start) ≡ true → start ≡ joined start v
not_changed start v h e = leaves_determine start (joined start v) (cell_laws.keeps start v h).same (sym (same-values (leaves_of (joined start v)) (leaves_of start) e))

only_start : (start v : Filled) (c : Bool) → OneShape start v → start ≡ joined start v → start ≡ joined start (cond c v start)
only_start start v true h e = e
only_start start v false h e = sym (cell_laws.idem start (record { good = h.good; same = refl }))

one_value : (start v : Filled) (key : Value) (c : Bool) → OneShape start v
    → value_or start (cond {A = Option (Value × Filled)} c (Some (key, joined start v)) None) ≡ joined start (cond c v start)
one_value start v key true h = refl
one_value start v key false h = sym (cell_laws.idem start (record { good = h.good; same = refl }))

abbrev table_with : Filled → List (Value × Filled) → Table Value Filled
table_with start entries = record { start = start; entries = entries }

alone_read_from : (start v : Filled) (given key : Value) (b : Bool) → are_same_values (leaves_of (joined start v)) (leaves_of start) ≡ b → OneShape start v
    → at_key value_order (table_with start (cond b [] ((given, joined start v) ∷ []))) key ≡ joined start (cond (is_eq (value_order key given)) v start)
alone_read_from start v given key true e h = only_start start v (is_eq (value_order key given)) h (not_changed start v h e)
alone_read_from start v given key false e h = one_value start v given (is_eq (value_order key given)) h

abbrev given_key : Option (ℕ × List Leaf) → Done → Option Value
given_key effect one = option_map (λ (e : ℕ × List Leaf). argument one.args e.0) effect

-- what an operation gives to a table, at a key
effect_read : (f : CellForm) (starts : List Value) (effect : Option (ℕ × List Leaf)) (one : Done) (key : Value) → IsGoodForm f
    → at_key value_order (table_effect f starts effect one) key
    ≡ joined (filled_with f starts) (cond (is_given key (given_key effect one)) (cell_effect f starts (option_map second effect) one) (filled_with f starts))
effect_read f starts None one key good = sym (cell_laws.idem (filled_with f starts) (one_shape f starts starts good))
effect_read f starts (Some effect) one key good =
    let v = filled_with f (map (leaf_value one) effect.1) in
    alone_read_from (filled_with f starts) v (argument one.args effect.0) key (are_same_values (leaves_of (joined (filled_with f starts) v)) (leaves_of (filled_with f starts))) refl
    (one_shape f starts (map (leaf_value one) effect.1) good)

-- an operation more, at its key or not
one_more : (f : CellForm) (starts : List Value) (effects : List (Option (List Leaf))) → IsGoodForm f → (one : Done) (ones : List Done) (b : Bool)
    → joined (joined (filled_with f starts) (cond b (cell_effect f starts (effect_of effects one) one) (filled_with f starts))) (denotation (cell_effects f starts effects) ones)
    ≡ denotation (cell_effects f starts effects) (cond b (one ∷ ones) ones)
one_more f starts effects good one ones true =
    let m = cell_effects f starts effects in
    let are = cells_are f starts effects good in
    let e = are.effect_kin one in
    let d = start-kin-denotation m are ones in
    ap (λ c. joined c (denotation m ones)) (cell_laws.comm m.start (m.effect one) e)
    ∙ cell_laws.assoc (m.effect one) m.start (denotation m ones) (both-kin m are (m.effect one) m.start e are.start_kin) d
    ∙ ap (λ c. joined (m.effect one) c) (start-joined m are ones)
one_more f starts effects good one ones false =
    let m = cell_effects f starts effects in
    let are = cells_are f starts effects good in
    ap (λ c. joined c (denotation m ones)) (cell_laws.idem m.start are.start_kin) ∙ start-joined m are ones

two_joined : (a b c d : Filled) → a ≡ b → c ≡ d → joined a c ≡ joined b d
two_joined a b c d e f = cc

pub tables_are_cells : IsTotalOrder value_order → TellsApart value_order → TablesAreCells
tables_are_cells total tells f starts effects [] key good = refl
tables_are_cells total tells f starts effects (one ∷ ones) key good =
    let m = table_effects f starts effects in
    let are = tables_are total tells f starts effects good in
    let start = filled_with f starts in
    let given = is_given key (key_of_effect effects one) in
    let behind = given_at (key_of_effect effects) key ones in
    at_key-joined total cell_laws (m.effect one) (denotation m ones) (both-kin m are (m.effect one) (denotation m ones) (are.effect_kin one) (start-kin-denotation m are ones)) key
    ∙ two_joined (at_key value_order (m.effect one) key) (joined start (cond given (cell_effect f starts (effect_of (leaves_given effects) one) one) start))
    (at_key value_order (denotation m ones) key) (denotation (cell_effects f starts (leaves_given effects)) behind)
    (effect_read f starts (effect_of effects one) one key good
    ∙ ap (λ o. joined start (cond given (cell_effect f starts o one) start)) (sym (leaves_of_effect effects one)))
    (tables_are_cells total tells f starts effects ones key good)
    ∙ one_more f starts (leaves_given effects) good one behind given

-- a key alone
one_found : (c : Bool) (key : Value) → is_some (cond {A = Option Value} c (Some key) None) ≡ c
one_found true key = refl
one_found false key = refl

alone_has : (key : Value) (given : Option Value) → has_key value_order key (key_alone given) ≡ is_given key given
alone_has key None = refl
alone_has key (Some given) = one_found (is_eq (value_order key given)) given

two_or : (a b c d : Bool) → a ≡ b → c ≡ d → (a || c) ≡ (b || d)
two_or a b c d e f = cc

pub sets_have_added : IsTotalOrder value_order → TellsApart value_order → SetsHaveAdded
sets_have_added total tells effects [] key = refl
sets_have_added total tells effects (one ∷ ones) key =
    let m = set_effects value_order (added_key effects) in
    let are = sets_are value_order total tells (added_key effects) in
    union_has_both total (m.effect one) (denotation m ones) (both-kin m are (m.effect one) (denotation m ones) (are.effect_kin one) (start-kin-denotation m are ones)) key
    ∙ two_or (has_key value_order key (m.effect one)) (is_given key (added_key effects one)) (has_key value_order key (denotation m ones)) (list_any (λ x. is_given key (added_key effects x)) ones)
    (alone_has key (added_key effects one)) (sets_have_added total tells effects ones key)

pub tallies_sum : TalliesSum
tallies_sum effects ones replica = tally_sum (tally_weight effects) ones replica

-- the weight of an operation at a key
no_weight : (c d : Bool) → ◌≡◌ {A = ℕ} (cond c (cond d 0 0) 0) 0
no_weight true true = refl
no_weight true false = refl
no_weight false d = refl

abbrev key_with : Option (ℕ × Leaf) → Done → Option Value
key_with effect one = option_map (λ (e : ℕ × Leaf). argument one.args e.0) effect

abbrev weight_with : Option (ℕ × Leaf) → Done → ℕ
weight_with effect one = weight_of (option_map (λ (e : ℕ × Leaf). e.1) effect) one

counts_here : (key : Value) (effect : Option (ℕ × Leaf)) (one : Done) (mine : Bool)
    → cond mine (cond (is_eq (value_order key (key_given effect one))) (weight_with effect one) 0) 0 ≡ cond (is_given key (key_with effect one)) (cond mine (weight_with effect one) 0) 0
counts_here key None one mine = no_weight mine (is_eq (value_order key (key_given None one)))
counts_here key (Some effect) one true = refl
counts_here key (Some effect) one false = sym (no_weight (is_eq (value_order key (key_given (Some effect) one))) false)

two_sums : (a b c d : ℕ) → a ≡ b → c ≡ d → a + c ≡ b + d
two_sums a b c d e f = cc

nothing_before : (n : ℕ) → 0 + n ≡ n
nothing_before n = omega arith

total_cond : (f : Done → ℕ) (b : Bool) (one : Done) (ones : List Done) → cond b (f one) 0 + total f ones ≡ total f (cond b (one ∷ ones) ones)
total_cond f true one ones = refl
total_cond f false one ones = nothing_before (total f ones)

sum_at : (effects : List (Option (ℕ × Leaf))) (ones : List Done) (key : Value) (replica : ℕ)
    → sum_done (weight_at value_order (bumped_key effects) (keyed_weight effects) key) replica ones ≡ sum_done (keyed_weight effects) replica (given_at (key_of_effect effects) key ones)
sum_at effects [] key replica = refl
sum_at effects (one ∷ ones) key replica =
    let given = is_given key (key_of_effect effects one) in
    let behind = given_at (key_of_effect effects) key ones in
    two_sums (share (weight_at value_order (bumped_key effects) (keyed_weight effects) key) replica one) (cond given (share (keyed_weight effects) replica one) 0)
    (sum_done (weight_at value_order (bumped_key effects) (keyed_weight effects) key) replica ones) (sum_done (keyed_weight effects) replica behind)
    (counts_here key (effect_of effects one) one (one.replica == replica)) (sum_at effects ones key replica)
    ∙ total_cond (share (keyed_weight effects) replica) given one behind

pub keyed_tallies_sum : IsTotalOrder value_order → TellsApart value_order → KeyedTalliesSum
keyed_tallies_sum total tells effects ones key replica =
    ap (λ s. sum_of s replica) (table_reads total tells (bumped_key effects) (keyed_weight effects) ones key)
    ∙ tally_sum (weight_at value_order (bumped_key effects) (keyed_weight effects) key) ones replica
    ∙ sum_at effects ones key replica
