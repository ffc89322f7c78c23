-- The tests of how small a state is say what they should.
use Rattle.std.proofs.Common.{◌≡◌, ℕ, ◌≤◌, ◌^◌, Bool, true, false, ◌&&◌, List, length, get_or, refl, ap, ◌∙◌}
use Rattle.std.specs.Prelude.{All, nat_le, unsigned_abs}
use Rattle.std.specs.List.{list_all}
use Rattle.std.proofs.Common.{arith}
use Rattle.std.proofs.lemmas.Bool.Decides.{nat_tests}
use Rattle.std.proofs.lemmas.List.Sums.{AllPass-from_list_all, list_all-from_AllPass}
use Rattle.kat_num.specs.declared.values.Value.{Value}
use Rattle.kat_num.specs.declared.values.Value.TheVariants as value
use Rattle.kat_lattice.specs.Maps.{Table}
use Rattle.kat_shape.specs.Values.{leaves_of}
use Rattle.kat_expr.specs.Limits.{IsAtMost}
use Rattle.kat_design.specs.Small.{IsSmallCell, IsSmallPart, IsSmallTable, IsSmallTally}
use Rattle.kat_design.specs.Tests.{are_small_sums, is_small_cell, is_small_part, is_small_tally, is_small_value}
use Rattle.kat_design.specs.declared.states.Part.{Part}
use Rattle.kat_design.specs.declared.states.Part.TheVariants as part
use Rattle.kat_design.proofs.Accepted.{and_left, and_right}

-- a test tells whether something holds
record Tells {A : Type 0} (test : A → Bool) (P : A → Type 0) : Type 0 where
  pub sound : (x : A) → test x ≡ true → P x
  pub complete : (x : A) → P x → test x ≡ true

each_tells : {A : Type 0} (test : A → Bool) (P : A → Type 0) → Tells test P → Tells (list_all test) (All P)
each_tells test P t = record {
  sound = λ xs e. λ i d h. t.sound (get_or xs i d) (AllPass-from_list_all test xs e i d h);
  complete = λ xs all. list_all-from_AllPass test xs (λ i d h. t.complete (get_or xs i d) (all i d h));
}

of_value : {V : Type 0} (test : V → Bool) (P : V → Type 0) → Tells test P → Tells (λ (e : Value × V). test e.1) (λ (e : Value × V). P e.1)
of_value test P t = record { sound = λ e h. t.sound e.1 h; complete = λ e h. t.complete e.1 h }

pub both_hold : (a b : Bool) → a ≡ true → b ≡ true → a && b ≡ true
both_hold a b e k = ap (λ c. c && b) e ∙ k

below : (n m : ℕ) (b : Bool) → nat_le n m ≡ b → b ≡ true → n ≤ m
below n m true e h = grind (arith, nat_tests)
below n m false e h = absurd (cc)

pub above : (n m : ℕ) → n ≤ m → nat_le n m ≡ true
above n m h = grind (arith, nat_tests)

value_sound : (v : Value) → is_small_value v ≡ true → IsAtMost (2 ^ 100) v
value_sound (value.Bool b) e = tt
value_sound (value.Num z) e = below (unsigned_abs z) (2 ^ 100) (nat_le (unsigned_abs z) (2 ^ 100)) refl e
value_sound (value.Name code) e = tt

value_complete : (v : Value) → IsAtMost (2 ^ 100) v → is_small_value v ≡ true
value_complete (value.Bool b) h = refl
value_complete (value.Num z) h = above (unsigned_abs z) (2 ^ 100) h
value_complete (value.Name code) h = refl

values_tell : Tells (list_all is_small_value) (All (IsAtMost (2 ^ 100)))
values_tell = each_tells is_small_value (IsAtMost (2 ^ 100)) (record { sound = value_sound; complete = value_complete })

cells_tell : Tells is_small_cell IsSmallCell
cells_tell = record { sound = λ cell e. values_tell.sound (leaves_of cell) e; complete = λ cell h. values_tell.complete (leaves_of cell) h }

sums_tell : Tells are_small_sums (All (λ (e : ℕ × ℕ). e.1 ≤ 2 ^ 100))
sums_tell = each_tells (λ (e : ℕ × ℕ). nat_le e.1 (2 ^ 100)) (λ (e : ℕ × ℕ). e.1 ≤ 2 ^ 100)
    (record { sound = λ e h. below e.1 (2 ^ 100) (nat_le e.1 (2 ^ 100)) refl h; complete = λ e h. above e.1 (2 ^ 100) h })

tallies_tell : Tells is_small_tally IsSmallTally
tallies_tell = record {
  sound = λ sums e. record {
    few = below (length sums) 32 (nat_le (length sums) 32) refl (and_left (nat_le (length sums) 32) (are_small_sums sums) e);
    each = sums_tell.sound sums (and_right (nat_le (length sums) 32) (are_small_sums sums) e);
  };
  complete = λ sums h. both_hold (nat_le (length sums) 32) (are_small_sums sums) (above (length sums) 32 h.few) (sums_tell.complete sums h.each);
}

table_tells : {V : Type 0} (test : V → Bool) (P : V → Type 0) → Tells test P
    → Tells (λ (t : Table Value V). test t.start && list_all (λ (e : Value × V). test e.1) t.entries) (IsSmallTable P)
table_tells {V} test P t =
    let entries = each_tells (λ (e : Value × V). test e.1) (λ (e : Value × V). P e.1) (of_value test P t) in
    record {
      sound = λ table e. record {
        start = t.sound table.start (and_left (test table.start) (list_all (λ (e : Value × V). test e.1) table.entries) e);
        each = entries.sound table.entries (and_right (test table.start) (list_all (λ (e : Value × V). test e.1) table.entries) e);
      };
      complete = λ table h. both_hold (test table.start) (list_all (λ (e : Value × V). test e.1) table.entries) (t.complete table.start h.start) (entries.complete table.entries h.each);
    }

part_sound : (p : Part) → is_small_part p ≡ true → IsSmallPart p
part_sound (part.Cell cell) e = cells_tell.sound cell e
part_sound (part.Table table) e = (table_tells is_small_cell IsSmallCell cells_tell).sound table e
part_sound (part.Set keys) e = tt
part_sound (part.Tally sums) e = tallies_tell.sound sums e
part_sound (part.Tallies table) e = (table_tells is_small_tally IsSmallTally tallies_tell).sound table e

part_complete : (p : Part) → IsSmallPart p → is_small_part p ≡ true
part_complete (part.Cell cell) h = cells_tell.complete cell h
part_complete (part.Table table) h = (table_tells is_small_cell IsSmallCell cells_tell).complete table h
part_complete (part.Set keys) h = refl
part_complete (part.Tally sums) h = tallies_tell.complete sums h
part_complete (part.Tallies table) h = (table_tells is_small_tally IsSmallTally tallies_tell).complete table h

parts_tell : Tells (list_all is_small_part) (All IsSmallPart)
parts_tell = each_tells is_small_part IsSmallPart (record { sound = part_sound; complete = part_complete })

pub small_sound : (parts : List Part) → list_all is_small_part parts ≡ true → All IsSmallPart parts
small_sound parts e = parts_tell.sound parts e

pub small_complete : (parts : List Part) → All IsSmallPart parts → list_all is_small_part parts ≡ true
small_complete parts h = parts_tell.complete parts h
