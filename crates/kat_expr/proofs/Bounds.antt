-- No value of an expression is too great.
use Rattle.std.proofs.Common.{◌≡◌, ℕ, suc, ◌+◌, ◌*◌, ◌^◌, ◌<◌, ◌≤◌, Bool, true, false, List, [], ◌∷◌, length, get_or, inl, inr, arith, ℤ}
use Rattle.std.proofs.lemmas.Bool.{cases_lt}
use Rattle.std.proofs.lemmas.Int.{ints}
use Rattle.std.proofs.Math.Nat.{add-mul}
use Rattle.std.proofs.lemmas.Nat.{mul-le}
use Rattle.std.proofs.lemmas.List.{get_or_past}
use Rattle.std.specs.Prelude.{All, unsigned_abs, ◌+ℤ◌, ◌-ℤ◌, if◌then◌else◌}
use Rattle.kat_num.specs.declared.values.Value.{Value}
use Rattle.kat_num.specs.declared.values.Value.TheVariants.{Bool as Truth, Num, Name}
use Rattle.kat_expr.specs.declared.expressions.Slot.{Slot}
use Rattle.kat_expr.specs.declared.expressions.Slot.TheVariants.{Plain, Keyed}
use Rattle.kat_expr.specs.Evaluation.{is_less, number_of, truth_of, value_of}
use Rattle.kat_expr.specs.Limits.{HasConstantsAtMost, IsAtMost, IsSlotAtMost, weight_of}
use Rattle.kat_expr.specs.Slots.{absent, argument, is_same, read_plain, read_table, slot_at, entry_at}
use Rattle.kat_expr.specs.Terms.{Term, node_count}
use Rattle.kat_expr.specs.Terms.Term.{constant, field, entry, parameter, negation, both, either, less, at_most, same, sum, difference, greater, lesser, choice}

-- the absolute value of a value as a number
abbrev pub size_of : Value → ℕ
size_of value = unsigned_abs (number_of value)

small_size : (most : ℕ) (value : Value) → IsAtMost most value → size_of value ≤ most
small_size most (Truth _) h = omega arith
small_size most (Num z) h = h
small_size most (Name _) h = omega arith

argument_small : (most : ℕ) (args : List Value) (place : ℕ) → All (IsAtMost most) args → IsAtMost most (argument args place)
argument_small most args place all =
    elim (cases_lt place (length args)) [
      | inl inside ↦ all place absent inside
      | inr past ↦ let none : get_or args place absent ≡ absent = get_or_past args place absent past in rw none tt
    ]

slot_small : (most : ℕ) (state : List Slot) (place : ℕ) → All (IsSlotAtMost most) state → IsSlotAtMost most (slot_at state place)
slot_small most state place all =
    elim (cases_lt place (length state)) [
      | inl inside ↦ all place (Plain absent) inside
      | inr past ↦ let none : get_or state place (Plain absent) ≡ Plain absent = get_or_past state place (Plain absent) past in rw none tt
    ]

plain_small : (most : ℕ) (slot : Slot) → IsSlotAtMost most slot → IsAtMost most (read_plain slot)
plain_small most (Plain value) h = h
plain_small most (Keyed start entries) h = tt

chosen_small : (most : ℕ) (b : Bool) (x y : Value) → IsAtMost most x → IsAtMost most y → IsAtMost most (if b then x else y)
chosen_small most true x y h k = h
chosen_small most false x y h k = k

entries_small : (most : ℕ) (key start : Value) (entries : List (Value × Value)) → IsAtMost most start → All (λ (e : Value × Value). IsAtMost most e.1) entries
    → IsAtMost most (entry_at key start entries)
entries_small most key start [] s all = s
entries_small most key start (first ∷ entries) s all =
    chosen_small most (is_same first.0 key) first.1 (entry_at key start entries) (all 0 first (omega arith))
    (entries_small most key start entries s (λ k d h. all (suc k) d (omega arith)))

table_small : (most : ℕ) (key : Value) (slot : Slot) → IsSlotAtMost most slot → IsAtMost most (read_table key slot)
table_small most key (Plain value) h = tt
table_small most key (Keyed start entries) h = entries_small most key start entries h.0 h.1

add_size : (x y : ℤ) → unsigned_abs (x +ℤ y) ≤ unsigned_abs x + unsigned_abs y
add_size x y = omega (arith, ints)

sub_size : (x y : ℤ) → unsigned_abs (x -ℤ y) ≤ unsigned_abs x + unsigned_abs y
sub_size x y = omega (arith, ints)

chosen_size : (b : Bool) (x y : Value) (m : ℕ) → size_of x ≤ m → size_of y ≤ m → size_of (if b then x else y) ≤ m
chosen_size true x y m h k = h
chosen_size false x y m h k = k

-- one read, or one constant
one_read : (most limit n : ℕ) → n ≤ most → n ≤ 1 * most + 1 * limit
one_read most limit n h = omega arith

one_constant : (most limit n : ℕ) → n ≤ limit → n ≤ 0 * most + 1 * limit
one_constant most limit n h = omega arith

-- the bounds of two parts add up
both_sizes : (most limit v w m n a b c : ℕ) → c ≤ a + b → a ≤ v * most + m * limit → b ≤ w * most + n * limit → c ≤ (v + w) * most + (1 + m + n) * limit
both_sizes most limit v w m n a b c h k l = omega (arith, add-mul v w most, add-mul (1 + m) n limit, add-mul 1 m limit)

greater_size : (most limit v w m n a : ℕ) → v ≤ w → m ≤ n → a ≤ v * most + m * limit → a ≤ w * most + n * limit
greater_size most limit v w m n a h k l = omega (arith, mul-le v most w most h (omega arith), mul-le m limit n limit k (omega arith), l)

-- the number of an expression is at most the greatest one of the state for each read that it adds up, and the
-- greatest constant or argument for each of its nodes
pub size_bound : (most limit : ℕ) (e : Term) (state : List Slot) (args : List Value) → All (IsSlotAtMost most) state → All (IsAtMost limit) args → HasConstantsAtMost limit e
    → size_of (value_of e state args) ≤ weight_of e * most + node_count e * limit
size_bound most limit (constant value) state args s a h = one_constant most limit _ (small_size limit value h)
size_bound most limit (field place) state args s a h =
    one_read most limit _ (small_size most (read_plain (slot_at state place)) (plain_small most (slot_at state place) (slot_small most state place s)))
size_bound most limit (entry place key) state args s a h =
    one_read most limit _ (small_size most (read_table (argument args key) (slot_at state place)) (table_small most (argument args key) (slot_at state place) (slot_small most state place s)))
size_bound most limit (parameter place) state args s a h = one_constant most limit _ (small_size limit (argument args place) (argument_small limit args place a))
size_bound most limit (negation x) state args s a h = omega arith
size_bound most limit (both x y) state args s a h = omega arith
size_bound most limit (either x y) state args s a h = omega arith
size_bound most limit (less x y) state args s a h = omega arith
size_bound most limit (at_most x y) state args s a h = omega arith
size_bound most limit (same x y) state args s a h = omega arith
size_bound most limit (sum x y) state args s a h =
    both_sizes most limit (weight_of x) (weight_of y) (node_count x) (node_count y) (size_of (value_of x state args)) (size_of (value_of y state args)) _
    (add_size (number_of (value_of x state args)) (number_of (value_of y state args))) (size_bound most limit x state args s a h.0) (size_bound most limit y state args s a h.1)
size_bound most limit (difference x y) state args s a h =
    both_sizes most limit (weight_of x) (weight_of y) (node_count x) (node_count y) (size_of (value_of x state args)) (size_of (value_of y state args)) _
    (sub_size (number_of (value_of x state args)) (number_of (value_of y state args))) (size_bound most limit x state args s a h.0) (size_bound most limit y state args s a h.1)
size_bound most limit (greater x y) state args s a h =
    chosen_size (is_less (value_of x state args) (value_of y state args)) (value_of y state args) (value_of x state args) (weight_of (greater x y) * most + node_count (greater x y) * limit)
    (greater_size most limit (weight_of y) (weight_of (greater x y)) (node_count y) (node_count (greater x y)) _ (omega arith) (omega arith) (size_bound most limit y state args s a h.1))
    (greater_size most limit (weight_of x) (weight_of (greater x y)) (node_count x) (node_count (greater x y)) _ (omega arith) (omega arith) (size_bound most limit x state args s a h.0))
size_bound most limit (lesser x y) state args s a h =
    chosen_size (is_less (value_of y state args) (value_of x state args)) (value_of y state args) (value_of x state args) (weight_of (lesser x y) * most + node_count (lesser x y) * limit)
    (greater_size most limit (weight_of y) (weight_of (lesser x y)) (node_count y) (node_count (lesser x y)) _ (omega arith) (omega arith) (size_bound most limit y state args s a h.1))
    (greater_size most limit (weight_of x) (weight_of (lesser x y)) (node_count x) (node_count (lesser x y)) _ (omega arith) (omega arith) (size_bound most limit x state args s a h.0))
size_bound most limit (choice c x y) state args s a h =
    chosen_size (truth_of (value_of c state args)) (value_of x state args) (value_of y state args) (weight_of (choice c x y) * most + node_count (choice c x y) * limit)
    (greater_size most limit (weight_of x) (weight_of (choice c x y)) (node_count x) (node_count (choice c x y)) _ (omega arith) (omega arith) (size_bound most limit x state args s a h.1))
    (greater_size most limit (weight_of y) (weight_of (choice c x y)) (node_count y) (node_count (choice c x y)) _ (omega arith) (omega arith) (size_bound most limit y state args s a h.2))

-- there are no more reads than nodes
few_reads : (e : Term) → weight_of e ≤ node_count e
few_reads (constant _) = omega arith
few_reads (field _) = omega arith
few_reads (entry _ _) = omega arith
few_reads (parameter _) = omega arith
few_reads (negation a) = omega arith
few_reads (both a b) = omega arith
few_reads (either a b) = omega arith
few_reads (less a b) = omega arith
few_reads (at_most a b) = omega arith
few_reads (same a b) = omega arith
few_reads (sum a b) = omega (arith, few_reads a, few_reads b)
few_reads (difference a b) = omega (arith, few_reads a, few_reads b)
few_reads (greater a b) = omega (arith, few_reads a, few_reads b)
few_reads (lesser a b) = omega (arith, few_reads a, few_reads b)
few_reads (choice c a b) = omega (arith, few_reads a, few_reads b)

-- so that two parts of an expression have a sum of 128 bits
pub sum_fits : (x y : Term) (state : List Slot) (args : List Value) → All (IsSlotAtMost (2 ^ 100)) state → All (IsAtMost (2 ^ 100)) args
    → HasConstantsAtMost (2 ^ 100) x → HasConstantsAtMost (2 ^ 100) y
    → node_count x + node_count y ≤ 400 → size_of (value_of x state args) + size_of (value_of y state args) < 2 ^ 127
sum_fits x y state args s a h k few =
    omega (arith, size_bound (2 ^ 100) (2 ^ 100) x state args s a h, size_bound (2 ^ 100) (2 ^ 100) y state args s a k, few_reads x, few_reads y)

one_more_read : (w n most limit size : ℕ) → w ≤ 1 → n ≤ 400 → size ≤ w * most + n * limit → size ≤ most + 400 * limit
one_more_read w n most limit size h k l = omega (arith, mul-le w most 1 most h (omega arith), mul-le n limit 400 limit k (omega arith), l)

-- if at most one read is added up, the number grows by what constants and arguments give
pub weight_bound : (most limit : ℕ) (e : Term) (state : List Slot) (args : List Value) → All (IsSlotAtMost most) state → All (IsAtMost limit) args → HasConstantsAtMost limit e
    → weight_of e ≤ 1 → node_count e ≤ 400 → size_of (value_of e state args) ≤ most + 400 * limit
weight_bound most limit e state args s a h w n = one_more_read (weight_of e) (node_count e) most limit _ w n (size_bound most limit e state args s a h)

pub at_most_size : (most : ℕ) (value : Value) → size_of value ≤ most → IsAtMost most value
at_most_size most (Truth _) h = tt
at_most_size most (Num z) h = h
at_most_size most (Name _) h = tt
