-- The state of few operations is small, and its tallies have room.
use Rattle.std.proofs.Common.{◌≡◌, ℕ, ◌*◌, ◌^◌, ◌≤◌, length, Bool, true, List, [], ◌∷◌, refl, map, Option, None, Some, arith, ℤ}
use Rattle.std.specs.Prelude.{All, nat_le, option_map, pos, negsuc, unsigned_abs}
use Rattle.std.specs.List.{AllByRecursion, list_all}
use Rattle.std.proofs.lemmas.List.Elements.{All-from_recursion, All-weaker, recursion_from_All}
use Rattle.kat_num.specs.Orders.{value_order}
use Rattle.kat_num.specs.declared.values.TheConstants.{NUMBER_LIMIT}
use Rattle.kat_num.specs.declared.values.Value.{Value}
use Rattle.kat_num.specs.declared.values.Value.TheVariants.{Bool as Truth, Num, Name}
use Rattle.kat_expr.specs.Evaluation.{number_of}
use Rattle.kat_expr.specs.Limits.{IsAtMost}
use Rattle.kat_lattice.specs.Maps.{Table}
use Rattle.kat_lattice.specs.Tallies.{Sums}
use Rattle.kat_shape.specs.Forms.{CellForm}
use Rattle.kat_type.specs.declared.done.Done.{Done}
use Rattle.kat_type.specs.declared.signatures.Signature.{Signature}
use Rattle.kat_design.specs.Denotations.{bumped_key, component_meaning, keyed_weight, natural, part_of, tally_weight, weight_of}
use Rattle.kat_design.specs.Designs.{ComponentForm}
use Rattle.kat_design.specs.Designs.ComponentForm.{a_cell, a_table, a_set, a_tally, tallies}
use Rattle.kat_design.specs.Effects.{cell_effects, effect_of, leaf_value}
use Rattle.kat_design.specs.Fitting.{FitsSignature}
use Rattle.kat_design.specs.KeyedTallies.{table_of}
use Rattle.kat_design.specs.Kinds.{kinds_of}
use Rattle.kat_design.specs.Meanings.{denotation, states_of}
use Rattle.kat_design.specs.Small.{IsSmallPart, IsSmallTable, IsSmallTally, is_roomy, is_roomy_part, room}
use Rattle.kat_design.specs.Sorted.{AreMatched, EachHas, IsComponent, IsStart}
use Rattle.kat_design.specs.Tallied.{tally_of}
use Rattle.kat_design.specs.declared.designs.Leaf.{Leaf}
use Rattle.kat_design.proofs.Bounds.{small_size}
use Rattle.kat_design.proofs.FewSums.{AreCounted, IsCount, IsCounted, Weighs, few_sums, table_counted, tally_counted}
use Rattle.kat_design.proofs.LowCells.{cell_low, leaf_low, low_cell, small_table}
use Rattle.kat_design.proofs.SmallDesigns.{matched_all, written_small}
use Rattle.kat_design.proofs.SmallParts.{above, both_hold}

-- starts
of_64_bits : (n : ℕ) → n ≤ 2 ^ 64 → n ≤ 2 ^ 100
of_64_bits n h = omega arith

start_more : (v : Value) → IsAtMost (2 ^ 64) v → IsAtMost (2 ^ 100) v
start_more (Truth b) h = tt
start_more (Num z) h = of_64_bits (unsigned_abs z) h
start_more (Name n) h = tt

starts_low : (shape : CellForm) (starts : List Value) → AreMatched IsStart starts (kinds_of shape) → AllByRecursion (IsAtMost (2 ^ 100)) starts
starts_low shape starts h =
    recursion_from_All (IsAtMost (2 ^ 100)) starts
    (matched_all IsStart (IsAtMost (2 ^ 100)) (λ v k is. start_more v (written_small v is.written)) starts (kinds_of shape) h)

-- weights
natural_low : (z : ℤ) (most : ℕ) → unsigned_abs z ≤ most → natural z ≤ most
natural_low (pos n) most h = h
natural_low (negsuc n) most h = omega arith

pub weight_low : (sig : Signature) (one : Done) (given : Option Leaf) → FitsSignature sig one → weight_of given one ≤ NUMBER_LIMIT
weight_low sig one None fits = omega arith
weight_low sig one (Some given) fits = natural_low (number_of (leaf_value one given)) NUMBER_LIMIT (small_size NUMBER_LIMIT (leaf_value one given) (leaf_low sig one given fits))

each_weighs : (sig : Signature) (given : Done → Option Leaf) (ones : List Done) → AllByRecursion (FitsSignature sig) ones → AllByRecursion (Weighs (λ one. weight_of (given one) one) NUMBER_LIMIT) ones
each_weighs sig given [] fits = tt
each_weighs sig given (one ∷ ones) fits =
    (record { numbered = fits.0.numbered; few = fits.0.few; low = weight_low sig one (given one) fits.0 }, each_weighs sig given ones fits.1)

-- sums of at most 100,000 weights
abbrev greatest : ℕ → ℕ
greatest n = n * NUMBER_LIMIT

sum_small : (n s : ℕ) → n ≤ 100000 → s ≤ greatest n → s ≤ 2 ^ 100
sum_small n s h k = omega arith

sum_roomy : (n s : ℕ) → n ≤ 100000 → s ≤ greatest n → s ≤ room
sum_roomy n s h k = omega arith

small_tally : (n : ℕ) (sums : Sums) → n ≤ 100000 → IsCounted (greatest n) sums → IsSmallTally sums
small_tally n sums few h = record {
  few = few_sums (greatest n) sums h;
  each = All-weaker (IsCount (greatest n)) (λ (e : ℕ × ℕ). e.1 ≤ 2 ^ 100) (λ e is. sum_small n e.1 few is.low) sums (All-from_recursion (IsCount (greatest n)) sums h.each);
}

list_passes : {A : Type 0} (test : A → Bool) (P : A → Type 0) → ((x : A) → P x → test x ≡ true) → (xs : List A) → AllByRecursion P xs → list_all test xs ≡ true
list_passes test P passes [] h = refl
list_passes test P passes (x ∷ xs) h = both_hold (test x) (list_all test xs) (passes x h.0) (list_passes test P passes xs h.1)

roomy_tally : (n : ℕ) (sums : Sums) → n ≤ 100000 → IsCounted (greatest n) sums → is_roomy sums ≡ true
roomy_tally n sums few h = list_passes (λ (e : ℕ × ℕ). nat_le e.1 room) (IsCount (greatest n)) (λ e is. above e.1 room (sum_roomy n e.1 few is.low)) sums h.each

small_tallies : (n : ℕ) (table : Table Value Sums) → n ≤ 100000 → AreCounted (greatest n) table → IsSmallTable IsSmallTally table
small_tallies n table few h = record {
  start = small_tally n table.start few h.start;
  each = All-weaker (λ (e : Value × Sums). IsCounted (greatest n) e.1) (λ (e : Value × Sums). IsSmallTally e.1) (λ e is. small_tally n e.1 few is) table.entries
      (All-from_recursion (λ (e : Value × Sums). IsCounted (greatest n) e.1) table.entries h.each);
}

roomy_tallies : (n : ℕ) (table : Table Value Sums) → n ≤ 100000 → AreCounted (greatest n) table → list_all (λ (e : Value × Sums). is_roomy e.1) table.entries ≡ true
roomy_tallies n table few h =
    list_passes (λ (e : Value × Sums). is_roomy e.1) (λ (e : Value × Sums). IsCounted (greatest n) e.1) (λ e is. roomy_tally n e.1 few is) table.entries h.each

-- the parts
tally_is_counted : (sig : Signature) (effects : List (Option Leaf)) (ones : List Done) → AllByRecursion (FitsSignature sig) ones → IsCounted (greatest (length ones)) (tally_of (tally_weight effects) ones)
tally_is_counted sig effects ones fits = tally_counted (tally_weight effects) NUMBER_LIMIT ones (each_weighs sig (λ one. effect_of effects one) ones fits)

table_is_counted : (sig : Signature) (effects : List (Option (ℕ × Leaf))) (ones : List Done) → AllByRecursion (FitsSignature sig) ones
    → AreCounted (greatest (length ones)) (table_of value_order (bumped_key effects) (keyed_weight effects) ones)
table_is_counted sig effects ones fits =
    table_counted value_order (bumped_key effects) (keyed_weight effects) NUMBER_LIMIT ones (each_weighs sig (λ one. option_map (λ (effect : ℕ × Leaf). effect.1) (effect_of effects one)) ones fits)

small_part : (sig : Signature) (component : ComponentForm) (ones : List Done) → IsComponent sig.ops component → length ones ≤ 100000 → AllByRecursion (FitsSignature sig) ones
    → IsSmallPart (part_of component ones)
small_part sig (a_cell shape starts effects) ones is few fits =
    low_cell (denotation (cell_effects shape starts effects) ones) (cell_low shape starts effects sig ones (starts_low shape starts is.1) fits)
small_part sig (a_table key shape starts effects) ones is few fits = small_table shape starts effects sig ones (starts_low shape starts is.2) fits
small_part sig (a_set key effects) ones is few fits = tt
small_part sig (a_tally effects) ones is few fits = small_tally (length ones) (tally_of (tally_weight effects) ones) few (tally_is_counted sig effects ones fits)
small_part sig (tallies key effects) ones is few fits =
    small_tallies (length ones) (table_of value_order (bumped_key effects) (keyed_weight effects) ones) few (table_is_counted sig effects ones fits)

roomy_part : (sig : Signature) (component : ComponentForm) (ones : List Done) → length ones ≤ 100000 → AllByRecursion (FitsSignature sig) ones
    → is_roomy_part (part_of component ones) ≡ true
roomy_part sig (a_cell shape starts effects) ones few fits = refl
roomy_part sig (a_table key shape starts effects) ones few fits = refl
roomy_part sig (a_set key effects) ones few fits = refl
roomy_part sig (a_tally effects) ones few fits = roomy_tally (length ones) (tally_of (tally_weight effects) ones) few (tally_is_counted sig effects ones fits)
roomy_part sig (tallies key effects) ones few fits =
    roomy_tallies (length ones) (table_of value_order (bumped_key effects) (keyed_weight effects) ones) few (table_is_counted sig effects ones fits)

small_parts : (sig : Signature) (components : List ComponentForm) (ones : List Done) → EachHas (IsComponent sig.ops) components → length ones ≤ 100000
    → AllByRecursion (FitsSignature sig) ones → AllByRecursion IsSmallPart (states_of (map component_meaning components) ones)
small_parts sig [] ones is few fits = tt
small_parts sig (component ∷ components) ones is few fits = (small_part sig component ones is.0 few fits, small_parts sig components ones is.1 few fits)

pub small_state : (sig : Signature) (components : List ComponentForm) (ones : List Done) → EachHas (IsComponent sig.ops) components → length ones ≤ 100000
    → All (FitsSignature sig) ones → All IsSmallPart (states_of (map component_meaning components) ones)
small_state sig components ones is few fits =
    All-from_recursion IsSmallPart (states_of (map component_meaning components) ones) (small_parts sig components ones is few (recursion_from_All (FitsSignature sig) ones fits))

roomy_parts : (sig : Signature) (components : List ComponentForm) (ones : List Done) → length ones ≤ 100000 → AllByRecursion (FitsSignature sig) ones
    → list_all is_roomy_part (states_of (map component_meaning components) ones) ≡ true
roomy_parts sig [] ones few fits = refl
roomy_parts sig (component ∷ components) ones few fits =
    both_hold (is_roomy_part (part_of component ones)) (list_all is_roomy_part (states_of (map component_meaning components) ones))
    (roomy_part sig component ones few fits) (roomy_parts sig components ones few fits)

pub roomy_state : (sig : Signature) (components : List ComponentForm) (ones : List Done) → length ones ≤ 100000 → All (FitsSignature sig) ones
    → list_all is_roomy_part (states_of (map component_meaning components) ones) ≡ true
roomy_state sig components ones few fits = roomy_parts sig components ones few (recursion_from_All (FitsSignature sig) ones fits)
