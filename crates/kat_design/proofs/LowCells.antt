-- How great the leaves of cells and tables are that operations give.
use Rattle.std.proofs.Common.{ℕ, ◌^◌, ◌≤◌, Bool, true, false, List, [], ◌∷◌, ◌++◌, cond, map, take, drop, Option, None, Some, arith, ℤ}
use Rattle.std.specs.Prelude.{All, pos, neg_ℤ, unsigned_abs, int_lt}
use Rattle.std.specs.Int.{int_max}
use Rattle.std.specs.List.{AllByRecursion}
use Rattle.std.specs.declared.cmp.Ordering.{Ordering}
use Rattle.std.specs.declared.cmp.Ordering.TheVariants.{Less, Equal, Greater}
use Rattle.std.specs.Ordering.{match_ordering}
use Rattle.std.proofs.lemmas.Int.{ints}
use Rattle.std.proofs.lemmas.List.Elements.{All-drop, All-from_recursion, All-take, All-weaker, recursion_from_All}
use Rattle.kat_num.specs.Orders.{value_order}
use Rattle.kat_num.specs.Values.{IsArgument, IsWithinLimit}
use Rattle.kat_num.specs.declared.values.Sort.{Sort}
use Rattle.kat_num.specs.declared.values.TheConstants.{NUMBER_LIMIT}
use Rattle.kat_num.specs.declared.values.Value.{Value}
use Rattle.kat_num.specs.declared.values.Value.TheVariants.{Bool as Truth, Num, Name}
use Rattle.kat_expr.specs.Evaluation.{number_of}
use Rattle.kat_expr.specs.Limits.{IsAtMost}
use Rattle.kat_expr.specs.Slots.{argument}
use Rattle.kat_lattice.specs.Keyed.{by_key, on_value}
use Rattle.kat_lattice.specs.KeyedLaws.{each_union}
use Rattle.kat_lattice.specs.Maps.{Table, maps_joined}
use Rattle.kat_shape.specs.Flats.{filled_with}
use Rattle.kat_shape.specs.Forms.{CellForm, numbers, names, truths, lex, pair, width_of}
use Rattle.kat_shape.specs.Values.{Filled, a_number, a_name, a_truth, a_lex, a_pair, cells_compared, joined, leaves_of}
use Rattle.kat_type.specs.declared.done.Done.{Done}
use Rattle.kat_type.specs.declared.signatures.Signature.{Signature}
use Rattle.kat_design.specs.Denotations.{table_effect, table_effects}
use Rattle.kat_design.specs.Effects.{cell_effect, cell_effects, effect_of, leaf_value}
use Rattle.kat_design.specs.Fitting.{FitsSignature}
use Rattle.kat_design.specs.Meanings.{Effects, denotation}
use Rattle.kat_design.specs.Small.{IsSmallCell, IsSmallTable}
use Rattle.kat_type.specs.Unions.{are_same_values}
use Rattle.kat_design.specs.declared.designs.Leaf.{Leaf}
use Rattle.kat_design.specs.declared.designs.Leaf.TheVariants as leaf
use Rattle.kat_design.proofs.Bounds.{at_place, small_size}
use Rattle.kat_design.proofs.SmallDesigns.{matched_all}

-- each number of a cell is at most so great
abbrev pub IsLow : ℕ → Filled → Type 0
IsLow most (a_number z) = unsigned_abs z ≤ most
IsLow most (a_name n) = Unit {0}
IsLow most (a_truth b) = Unit {0}
IsLow most (a_lex a b) = IsLow most a × IsLow most b
IsLow most (a_pair a b) = IsLow most a × IsLow most b

each_append : {X : Type 0} (P : X → Type 0) (xs ys : List X) → AllByRecursion P xs → AllByRecursion P ys → AllByRecursion P (xs ++ ys)
each_append P [] ys h k = k
each_append P (x ∷ xs) ys h k = (h.0, each_append P xs ys h.1 k)

low_leaves : (most : ℕ) (cell : Filled) → IsLow most cell → AllByRecursion (IsAtMost most) (leaves_of cell)
low_leaves most (a_number z) h = (h, tt)
low_leaves most (a_name n) h = (tt, tt)
low_leaves most (a_truth b) h = (tt, tt)
low_leaves most (a_lex a b) h = each_append (IsAtMost most) (leaves_of a) (leaves_of b) (low_leaves most a h.0) (low_leaves most b h.1)
low_leaves most (a_pair a b) h = each_append (IsAtMost most) (leaves_of a) (leaves_of b) (low_leaves most a h.0) (low_leaves most b h.1)

pub low_cell : (cell : Filled) → IsLow (2 ^ 100) cell → IsSmallCell cell
low_cell cell h = All-from_recursion (IsAtMost (2 ^ 100)) (leaves_of cell) (low_leaves (2 ^ 100) cell h)

-- a join has the leaves of one side or the other
one_of_two : (most : ℕ) (x y : ℤ) (b : Bool) → unsigned_abs x ≤ most → unsigned_abs y ≤ most → unsigned_abs (cond b x y) ≤ most
one_of_two most x y true h k = h
one_of_two most x y false h k = k

low_max : (most : ℕ) (x y : ℤ) → unsigned_abs x ≤ most → unsigned_abs y ≤ most → unsigned_abs (int_max x y) ≤ most
low_max most x y h k = one_of_two most x y (int_lt y x) h k

low_lex : (most : ℕ) (a b c d both : Filled) (r : Ordering) → IsLow most a × IsLow most b → IsLow most c × IsLow most d → IsLow most both
    → IsLow most (match_ordering r (a_lex c d) (a_lex a both) (a_lex a b))
low_lex most a b c d both Less h k l = k
low_lex most a b c d both Equal h k l = (h.0, l)
low_lex most a b c d both Greater h k l = h

pub low_joined : (most : ℕ) (x y : Filled) → IsLow most x → IsLow most y → IsLow most (joined x y)
low_joined most (a_number x) (a_number y) h k = low_max most x y h k
low_joined most (a_name x) (a_name y) h k = tt
low_joined most (a_truth x) (a_truth y) h k = tt
low_joined most (a_lex a b) (a_lex c d) h k = low_lex most a b c d (joined b d) (cells_compared a c) h k (low_joined most b d h.1 k.1)
low_joined most (a_pair a b) (a_pair c d) h k = (low_joined most a c h.0 k.0, low_joined most b d h.1 k.1)
low_joined most _ _ h k = h

-- a shape filled with small values
low_front : (most n : ℕ) (vs : List Value) → AllByRecursion (IsAtMost most) vs → AllByRecursion (IsAtMost most) (take n vs)
low_front most n vs h = recursion_from_All (IsAtMost most) (take n vs) (All-take (IsAtMost most) n vs (All-from_recursion (IsAtMost most) vs h))

low_rest : (most n : ℕ) (vs : List Value) → AllByRecursion (IsAtMost most) vs → AllByRecursion (IsAtMost most) (drop n vs)
low_rest most n vs h = recursion_from_All (IsAtMost most) (drop n vs) (All-drop (IsAtMost most) n vs (All-from_recursion (IsAtMost most) vs h))

pub low_filled : (most : ℕ) (f : CellForm) (vs : List Value) → AllByRecursion (IsAtMost most) vs → IsLow most (filled_with f vs)
low_filled most numbers [] h = omega arith
low_filled most numbers (Num z ∷ vs) h = h.0
low_filled most numbers (Name n ∷ vs) h = omega arith
low_filled most numbers (Truth b ∷ vs) h = omega arith
low_filled most names vs h = tt
low_filled most truths vs h = tt
low_filled most (lex a b) vs h = (low_filled most a (take (width_of a) vs) (low_front most (width_of a) vs h), low_filled most b (drop (width_of a) vs) (low_rest most (width_of a) vs h))
low_filled most (pair a b) vs h = (low_filled most a (take (width_of a) vs) (low_front most (width_of a) vs h), low_filled most b (drop (width_of a) vs) (low_rest most (width_of a) vs h))

-- what an operation gives to a leaf is within the limit of arguments
within_limit : (v : Value) → IsWithinLimit v → IsAtMost NUMBER_LIMIT v
within_limit (Truth b) h = tt
within_limit (Num z) h = h
within_limit (Name n) h = tt

pub args_low : (sig : Signature) (one : Done) → FitsSignature sig one → All (IsAtMost NUMBER_LIMIT) one.args
args_low sig one fits = matched_all (λ (v : Value) (sort : Sort). IsArgument sort v) (IsAtMost NUMBER_LIMIT) (λ v sort h. within_limit v h.within) one.args fits.op.sorts fits.args

argument_low : (sig : Signature) (one : Done) (place : ℕ) → FitsSignature sig one → unsigned_abs (number_of (argument one.args place)) ≤ NUMBER_LIMIT
argument_low sig one place fits = small_size NUMBER_LIMIT (argument one.args place) (at_place NUMBER_LIMIT one.args place (args_low sig one fits))

turned_low : (most : ℕ) (z : ℤ) → unsigned_abs z ≤ most → unsigned_abs (neg_ℤ z) ≤ most
turned_low most z h = omega (arith, ints)

zero_low : (most : ℕ) → unsigned_abs (pos 0) ≤ most
zero_low most = omega arith

few_low : (n : ℕ) → n ≤ 32 → n ≤ NUMBER_LIMIT
few_low n h = omega arith

pub leaf_low : (sig : Signature) (one : Done) (given : Leaf) → FitsSignature sig one → IsAtMost NUMBER_LIMIT (leaf_value one given)
leaf_low sig one (leaf.Arg place) fits = at_place NUMBER_LIMIT one.args place (args_low sig one fits)
leaf_low sig one leaf.Time fits = fits.time
leaf_low sig one leaf.Replica fits = few_low one.replica fits.few
leaf_low sig one leaf.Zero fits = few_low 0 (omega arith)
leaf_low sig one leaf.One fits = few_low 1 (omega arith)
leaf_low sig one (leaf.Pos place) fits = low_max NUMBER_LIMIT (number_of (argument one.args place)) (pos 0) (argument_low sig one place fits) (zero_low NUMBER_LIMIT)
leaf_low sig one (leaf.Neg place) fits =
    low_max NUMBER_LIMIT (neg_ℤ (number_of (argument one.args place))) (pos 0)
    (turned_low NUMBER_LIMIT (number_of (argument one.args place)) (argument_low sig one place fits)) (zero_low NUMBER_LIMIT)
leaf_low sig one leaf.False fits = tt
leaf_low sig one leaf.True fits = tt

limit_small : (n : ℕ) → n ≤ NUMBER_LIMIT → n ≤ 2 ^ 100
limit_small n h = omega arith

pub at_most_more : (v : Value) → IsAtMost NUMBER_LIMIT v → IsAtMost (2 ^ 100) v
at_most_more (Truth b) h = tt
at_most_more (Num z) h = limit_small (unsigned_abs z) h
at_most_more (Name n) h = tt

leaves_low : (sig : Signature) (one : Done) (given : List Leaf) → FitsSignature sig one → AllByRecursion (IsAtMost (2 ^ 100)) (map (leaf_value one) given)
leaves_low sig one [] fits = tt
leaves_low sig one (leaf ∷ given) fits = (at_most_more (leaf_value one leaf) (leaf_low sig one leaf fits), leaves_low sig one given fits)

-- what holds of the start and of each effect, and of joins, holds of a denotation
denotation_has : {L : Type 0} (P : L → Type 0) (m : Effects L) → P m.start → ((a b : L) → P a → P b → P (m.joined a b)) → (Fits : Done → Type 0) → ((one : Done) → Fits one → P (m.effect one))
    → (ones : List Done) → AllByRecursion Fits ones → P (denotation m ones)
denotation_has P m start join Fits effect [] h = start
denotation_has P m start join Fits effect (one ∷ ones) h = join (m.effect one) (denotation m ones) (effect one h.0) (denotation_has P m start join Fits effect ones h.1)

cell_effect_low : (f : CellForm) (starts : List Value) (effect : Option (List Leaf)) (sig : Signature) (one : Done) → AllByRecursion (IsAtMost (2 ^ 100)) starts → FitsSignature sig one
    → IsLow (2 ^ 100) (cell_effect f starts effect one)
cell_effect_low f starts None sig one h fits = low_filled (2 ^ 100) f starts h
cell_effect_low f starts (Some given) sig one h fits = low_filled (2 ^ 100) f (map (leaf_value one) given) (leaves_low sig one given fits)

pub cell_low : (f : CellForm) (starts : List Value) (effects : List (Option (List Leaf))) (sig : Signature) (ones : List Done) → AllByRecursion (IsAtMost (2 ^ 100)) starts
    → AllByRecursion (FitsSignature sig) ones → IsLow (2 ^ 100) (denotation (cell_effects f starts effects) ones)
cell_low f starts effects sig ones h fits =
    denotation_has (IsLow (2 ^ 100)) (cell_effects f starts effects) (low_filled (2 ^ 100) f starts h) (low_joined (2 ^ 100)) (FitsSignature sig)
    (λ one is. cell_effect_low f starts (effect_of effects one) sig one h is) ones fits

-- tables
record IsLowTable (table : Table Value Filled) : Type 0 where
  pub start : IsLow (2 ^ 100) table.start
  pub each : AllByRecursion (λ (e : Value × Filled). IsLow (2 ^ 100) e.1) table.entries

table_joined : (a b : Table Value Filled) → IsLowTable a → IsLowTable b → IsLowTable (maps_joined value_order joined a b)
table_joined a b h k = record {
  start = h.start;
  each = each_union (by_key value_order) (on_value joined) (λ (e : Value × Filled). IsLow (2 ^ 100) e.1) (λ x y p q. low_joined (2 ^ 100) x.1 y.1 p q) a.entries b.entries h.each k.each;
}

one_entry : (key : Value) (v : Filled) (b : Bool) → IsLow (2 ^ 100) v → AllByRecursion (λ (e : Value × Filled). IsLow (2 ^ 100) e.1) (cond b [] ((key, v) ∷ []))
one_entry key v true h = tt
one_entry key v false h = (h, tt)

table_effect_low : (f : CellForm) (starts : List Value) (effect : Option (ℕ × List Leaf)) (sig : Signature) (one : Done) → AllByRecursion (IsAtMost (2 ^ 100)) starts → FitsSignature sig one
    → IsLowTable (table_effect f starts effect one)
table_effect_low f starts None sig one h fits = record { start = low_filled (2 ^ 100) f starts h; each = tt }
table_effect_low f starts (Some effect) sig one h fits =
    let start = filled_with f starts in
    let low = low_filled (2 ^ 100) f starts h in
    let new = joined start (filled_with f (map (leaf_value one) effect.1)) in
    record {
      start = low;
      each = one_entry (argument one.args effect.0) new (are_same_values (leaves_of new) (leaves_of start))
          (low_joined (2 ^ 100) start (filled_with f (map (leaf_value one) effect.1)) low (low_filled (2 ^ 100) f (map (leaf_value one) effect.1) (leaves_low sig one effect.1 fits)));
    }

table_low : (f : CellForm) (starts : List Value) (effects : List (Option (ℕ × List Leaf))) (sig : Signature) (ones : List Done) → AllByRecursion (IsAtMost (2 ^ 100)) starts
    → AllByRecursion (FitsSignature sig) ones → IsLowTable (denotation (table_effects f starts effects) ones)
table_low f starts effects sig ones h fits =
    denotation_has IsLowTable (table_effects f starts effects) (record { start = low_filled (2 ^ 100) f starts h; each = tt }) table_joined (FitsSignature sig)
    (λ one is. table_effect_low f starts (effect_of effects one) sig one h is) ones fits

pub small_table : (f : CellForm) (starts : List Value) (effects : List (Option (ℕ × List Leaf))) (sig : Signature) (ones : List Done) → AllByRecursion (IsAtMost (2 ^ 100)) starts
    → AllByRecursion (FitsSignature sig) ones → IsSmallTable IsSmallCell (denotation (table_effects f starts effects) ones)
small_table f starts effects sig ones h fits =
    let table = denotation (table_effects f starts effects) ones in
    let low : IsLowTable table = table_low f starts effects sig ones h fits in
    record {
      start = low_cell table.start low.start;
      each = All-weaker (λ (e : Value × Filled). IsLow (2 ^ 100) e.1) (λ (e : Value × Filled). IsSmallCell e.1) (λ e is. low_cell e.1 is) table.entries
          (All-from_recursion (λ (e : Value × Filled). IsLow (2 ^ 100) e.1) table.entries low.each);
    }
