-- No value of an ask is too great.
use Rattle.std.proofs.Common.{◌≡◌, ℕ, zero, suc, ◌+◌, ◌*◌, ◌^◌, ◌<◌, ◌≤◌, Bool, true, false, List, [], ◌∷◌, length, get_or, inl, inr, arith, ℤ, Option, None, Some, map, ap, sym, subst}
use Rattle.std.proofs.lemmas.Bool.{cases_lt}
use Rattle.std.proofs.lemmas.Int.{ints}
use Rattle.std.proofs.Math.Nat.{add-mul}
use Rattle.std.proofs.lemmas.List.{get_or_past}
use Rattle.std.proofs.lemmas.List.Sums.{sum_by-le, get_or-le-sum_by}
use Rattle.std.specs.Prelude.{All, IfSome, sum_by, unsigned_abs, ◌+ℤ◌, ◌-ℤ◌, if◌then◌else◌, slice_get}
use Rattle.std.specs.Ordering.{is_eq}
use Rattle.std.specs.declared.cmp.Ordering.{Ordering}
use Rattle.kat_num.specs.Orders.{value_order}
use Rattle.kat_num.specs.declared.values.Value.{Value}
use Rattle.kat_num.specs.declared.values.Value.TheVariants.{Bool as Truth, Num, Name}
use Rattle.kat_lattice.specs.Keyed.{found_by, value_or}
use Rattle.kat_lattice.specs.Maps.{Table, at_key}
use Rattle.kat_lattice.specs.Tallies.{Sums, total_of}
use Rattle.kat_shape.specs.Values.{Filled, leaves_of}
use Rattle.kat_expr.specs.Evaluation.{number_of}
use Rattle.kat_expr.specs.Limits.{IsAtMost}
use Rattle.kat_expr.specs.Slots.{absent, argument}
use Rattle.kat_design.specs.Answers.{ask_value, leaf_of, read_at, read_part, read_plain, total_value}
use Rattle.kat_design.specs.Designs.{AskForm}
use Rattle.kat_design.specs.Designs.AskForm.{leaf, parameter, constant, negation, both, either, less, sum, difference}
use Rattle.kat_design.specs.Sizes.{ask_nodes}
use Rattle.kat_design.specs.Small.{HasConstantsAtMost, IsSmallCell, IsSmallPart, IsSmallTable, IsSmallTally}
use Rattle.kat_design.proofs.Sums.{sum_by_map}
use Rattle.kat_design.specs.declared.states.Part.{Part}
use Rattle.kat_design.specs.declared.states.Part.TheVariants as part

-- the absolute value of a value as a number
abbrev pub size_of : Value → ℕ
size_of v = unsigned_abs (number_of v)

pub small_size : (most : ℕ) (v : Value) → IsAtMost most v → size_of v ≤ most
small_size most (Truth _) h = omega arith
small_size most (Num z) h = h
small_size most (Name _) h = omega arith

pub at_place : (most : ℕ) (xs : List Value) (place : ℕ) → All (IsAtMost most) xs → IsAtMost most (argument xs place)
at_place most xs place all =
    elim (cases_lt place (length xs)) [
      | inl inside ↦ all place absent inside
      | inr past ↦ let none : get_or xs place absent ≡ absent = get_or_past xs place absent past in rw none tt
    ]

pub total_small : (sums : Sums) → IsSmallTally sums → total_of sums ≤ 2 ^ 105
total_small sums h = omega (arith, sum_by-le (λ (e : ℕ × ℕ). e.1) (2 ^ 100) sums h.each, h.few)

-- what holds of the start and of each entry of a table holds at each key
chosen : {V : Type 0} (P : V → Type 0) (start : V) (b : Bool) (x : Value × V) (rest : Option (Value × V)) → P x.1 → P (value_or start rest) → P (value_or start (if b then Some x else rest))
chosen P start true x rest h k = h
chosen P start false x rest h k = k

found_small : {V : Type 0} (P : V → Type 0) (start : V) (test : Value × V → Ordering) (entries : List (Value × V)) → P start → All (λ (e : Value × V). P e.1) entries
    → P (value_or start (found_by test entries))
found_small P start test [] s all = s
found_small {V} P start test (x ∷ entries) s all =
    chosen P start (is_eq (test x)) x (found_by test entries) (all 0 x (omega arith)) (found_small P start test entries s (λ k d h. all (suc k) d (omega arith)))

pub at_key_small : {V : Type 0} (P : V → Type 0) (table : Table Value V) (key : Value) → IsSmallTable P table → P (at_key value_order table key)
at_key_small {V} P table key h = found_small P table.start (λ (e : Value × V). value_order key e.0) table.entries h.start h.each

-- what is read
cell_size : (cell : Filled) (place : ℕ) → IsSmallCell cell → size_of (leaf_of cell place) ≤ 2 ^ 105
cell_size cell place all = omega (arith, small_size (2 ^ 100) (leaf_of cell place) (at_place (2 ^ 100) (leaves_of cell) place all))

tally_size : (sums : Sums) → IsSmallTally sums → size_of (total_value sums) ≤ 2 ^ 105
tally_size sums h = omega (arith, ints, total_small sums h)

plain_size : (p : Part) (place : ℕ) → IsSmallPart p → size_of (read_plain p place) ≤ 2 ^ 105
plain_size (part.Cell cell) place h = cell_size cell place h
plain_size (part.Table table) place h = omega arith
plain_size (part.Set keys) place h = omega arith
plain_size (part.Tally sums) place h = tally_size sums h
plain_size (part.Tallies table) place h = omega arith

keyed_size : (p : Part) (place : ℕ) (key : Value) → IsSmallPart p → size_of (read_at p place key) ≤ 2 ^ 105
keyed_size (part.Cell cell) place key h = omega arith
keyed_size (part.Table table) place key h = cell_size (at_key value_order table key) place (at_key_small IsSmallCell table key h)
keyed_size (part.Set keys) place key h = omega arith
keyed_size (part.Tally sums) place key h = omega arith
keyed_size (part.Tallies table) place key h = tally_size (at_key value_order table key) (at_key_small IsSmallTally table key h)

part_size : (p : Option Part) (place : ℕ) (key : Option ℕ) (args : List Value) → IfSome p IsSmallPart → size_of (read_part p place key args) ≤ 2 ^ 105
part_size None place key args h = omega arith
part_size (Some p) place None args h = plain_size p place h
part_size (Some p) place (Some key) args h = keyed_size p place (argument args key) h

pub all_get : {A : Type 0} (P : A → Type 0) (xs : List A) (i : ℕ) → All P xs → IfSome (slice_get xs i) P
all_get P [] i all = tt
all_get P (x ∷ xs) zero all = all 0 x (omega arith)
all_get P (x ∷ xs) (suc i) all = all_get P xs i (λ k d h. all (suc k) d (omega arith))

add_size : (x y : ℤ) → unsigned_abs (x +ℤ y) ≤ unsigned_abs x + unsigned_abs y
add_size x y = omega (arith, ints)

sub_size : (x y : ℤ) → unsigned_abs (x -ℤ y) ≤ unsigned_abs x + unsigned_abs y
sub_size x y = omega (arith, ints)

one_read : (n most : ℕ) → n ≤ most → n ≤ 1 * most
one_read n most h = omega arith

both_sizes : (most m n a b c : ℕ) → c ≤ a + b → a ≤ m * most → b ≤ n * most → c ≤ (1 + m + n) * most
both_sizes most m n a b c h k l = omega (arith, add-mul (1 + m) n most, add-mul 1 m most)

-- the value of an ask is at most the greatest sum for each of its nodes
pub size_bound : (a : AskForm) (state : List Part) (args : List Value) → All IsSmallPart state → All (IsAtMost (2 ^ 100)) args → HasConstantsAtMost (2 ^ 64) a
    → size_of (ask_value a state args) ≤ ask_nodes a * 2 ^ 105
size_bound (leaf component place key) state args s all h =
    one_read (size_of (read_part (slice_get state component) place key args)) (2 ^ 105) (part_size (slice_get state component) place key args (all_get IsSmallPart state component s))
size_bound (parameter place) state args s all h = omega (arith, small_size (2 ^ 100) (argument args place) (at_place (2 ^ 100) args place all))
size_bound (constant v) state args s all h = omega (arith, small_size (2 ^ 64) v h)
size_bound (negation a) state args s all h = omega arith
size_bound (both a b) state args s all h = omega arith
size_bound (either a b) state args s all h = omega arith
size_bound (less a b) state args s all h = omega arith
size_bound (sum a b) state args s all h =
    both_sizes (2 ^ 105) (ask_nodes a) (ask_nodes b) (size_of (ask_value a state args)) (size_of (ask_value b state args)) _
    (add_size (number_of (ask_value a state args)) (number_of (ask_value b state args))) (size_bound a state args s all h.0) (size_bound b state args s all h.1)
size_bound (difference a b) state args s all h =
    both_sizes (2 ^ 105) (ask_nodes a) (ask_nodes b) (size_of (ask_value a state args)) (size_of (ask_value b state args)) _
    (sub_size (number_of (ask_value a state args)) (number_of (ask_value b state args))) (size_bound a state args s all h.0) (size_bound b state args s all h.1)

-- so that two parts of an ask have a sum of 128 bits
pub sum_fits : (a b : AskForm) (state : List Part) (args : List Value) → All IsSmallPart state → All (IsAtMost (2 ^ 100)) args
    → HasConstantsAtMost (2 ^ 64) a → HasConstantsAtMost (2 ^ 64) b → ask_nodes a + ask_nodes b ≤ 64
    → size_of (ask_value a state args) + size_of (ask_value b state args) < 2 ^ 127
sum_fits a b state args s all h k few = omega (arith, size_bound a state args s all h, size_bound b state args s all k)

-- the asks of a design
pub one_ask_few : {X : Type 0} (g : X → AskForm) (xs : List X) (i : ℕ) (x : X) → i < length xs → x ≡ get_or xs i x → ask_nodes (g x) ≤ sum_by ask_nodes (map g xs)
one_ask_few g xs i x lt is =
    omega (arith, get_or-le-sum_by (λ y. ask_nodes (g y)) xs i x lt, ap (λ y. ask_nodes (g y)) is, sum_by_map ask_nodes g xs)

pub one_of_all : {X : Type 0} (P : AskForm → Type 0) (g : X → AskForm) (xs : List X) (i : ℕ) (x : X) → i < length xs → x ≡ get_or xs i x → All P (map g xs) → P (g x)
one_of_all P g [] i x lt is all = absurd (omega arith)
one_of_all P g (y ∷ xs) zero x lt is all = subst P (ap g (sym is)) (all 0 (g y) (omega arith))
one_of_all P g (y ∷ xs) (suc i) x lt is all = one_of_all P g xs i x (omega arith) is (λ k d h. all (suc k) d (omega arith))
