-- A node of a design goes with it: a file can hold its state, which is one of the design's, small, with room in each sum.
use Rattle.std.proofs.Common.{◌≡◌, ℕ, ◌^◌, ◌<◌, ◌≤◌, true, List, [], ◌∷◌, map, refl, sym, ◌∙◌, subst, arith}
use Rattle.std.specs.Prelude.{All, nat_le}
use Rattle.std.specs.List.{AllByRecursion, list_all}
use Rattle.std.proofs.lemmas.List.Elements.{All-from_recursion}
use Rattle.kat_num.specs.Orders.{value_order}
use Rattle.kat_num.specs.declared.values.Sort.{Sort}
use Rattle.kat_num.specs.declared.values.Value.{Value}
use Rattle.kat_num.specs.declared.values.Value.TheVariants as value
use Rattle.kat_lattice.specs.Sets.{TellsApart}
use Rattle.kat_lattice.specs.Tallies.{IsTally, Sums, TalliesKin, tally_laws}
use Rattle.kat_lattice.proofs.Readings.{maps_go}
use Rattle.kat_shape.specs.Flats.{filled_with}
use Rattle.kat_shape.specs.Forms.{CellForm, IsGoodForm}
use Rattle.kat_shape.specs.Laws.{cell_laws}
use Rattle.kat_shape.specs.Values.{Filled, OneShape, leaves_of}
use Rattle.kat_shape.proofs.Filling.{filled_leaves, filled_shape}
use Rattle.kat_expr.specs.Limits.{IsAtMost}
use Rattle.kat_type.specs.declared.signatures.OpSig.{OpSig}
use Rattle.kat_design.specs.Denotations.{component_meaning, part_of}
use Rattle.kat_design.specs.Designs.{ComponentForm}
use Rattle.kat_design.specs.Designs.ComponentForm.{a_cell, a_table, a_set, a_tally, tallies}
use Rattle.kat_design.specs.Kinds.{kinds_of}
use Rattle.kat_design.specs.Meanings.{are_kin, states_of}
use Rattle.kat_design.specs.Parts.{PartsKin}
use Rattle.kat_design.specs.Small.{IsSmallCell, IsSmallPart, IsSmallTally, is_roomy, is_roomy_part, room}
use Rattle.kat_design.specs.Sorted.{AreMatched, EachHas, IsComponent, IsStart, IsWritten}
use Rattle.kat_design.specs.declared.states.Part.{Part}
use Rattle.kat_design.specs.declared.states.Part.TheVariants as part
use Rattle.kat_design.proofs.FewSums.{IsCount, few_sums}
use Rattle.kat_design.proofs.SmallDesigns.{starts_fit, written_small}
use Rattle.kat_design.proofs.SmallParts.{above, both_hold}
use Rattle.kat_replica.specs.Starting.{HasStarts}
use Rattle.kat_node.specs.Nodes.{AreSums, IsCell, IsEntry, IsKey, IsPart, IsSum}
use Rattle.kat_node.specs.Written.{IsWrittenCell, IsWrittenEntry, IsWrittenPart, IsWrittenSum, IsWrittenTally}
use Rattle.kat_node.proofs.Each.{each_by}
use Rattle.kat_node.proofs.Starts.{component_starts}
use Rattle.kat_node.proofs.Leaves.{each_written}
use Rattle.kat_node.proofs.StatedForth.{key_written}

-- a file can hold it
sum_written : (sum : ℕ × ℕ) → IsSum sum → IsWrittenSum sum
sum_written sum is = let few = is.most_replica in let most = is.most in (omega (arith, few), omega (arith, most))

sums_written : (sums : Sums) → AreSums sums → IsWrittenTally sums
sums_written sums is = each_by IsSum IsWrittenSum sum_written sums is.each

entry_written : {V : Type 0} (key : Sort) (Is Fits : V → Type 0) → ((v : V) → Is v → Fits v) → (e : Value × V) → IsEntry key Is e → IsWrittenEntry Fits e
entry_written key Is Fits fits e is = (key_written key e.0 is.0, fits e.1 is.1)

part_written : (component : ComponentForm) (p : Part) → IsPart component p → IsWrittenPart p
part_written (a_cell shape starts effects) (part.Cell cell) is = is.written
part_written (a_table key shape starts effects) (part.Table table) is =
    each_by (IsEntry key (IsCell shape)) (IsWrittenEntry IsWrittenCell) (entry_written key (IsCell shape) IsWrittenCell (λ cell h. h.written)) table.entries is.each
part_written (a_set key effects) (part.Set keys) is = each_by (IsKey key) IsWritten (key_written key) keys is.each
part_written (a_tally effects) (part.Tally sums) is = sums_written sums is
part_written (tallies key effects) (part.Tallies table) is =
    each_by (IsEntry key AreSums) (IsWrittenEntry IsWrittenTally) (entry_written key AreSums IsWrittenTally sums_written) table.entries is.each
part_written (a_cell shape starts effects) _ is = absurd is
part_written (a_table key shape starts effects) _ is = absurd is
part_written (a_set key effects) _ is = absurd is
part_written (a_tally effects) _ is = absurd is
part_written (tallies key effects) _ is = absurd is

pub parts_written : (components : List ComponentForm) (parts : List Part) → AreMatched IsPart components parts → EachHas IsWrittenPart parts
parts_written [] [] is = tt
parts_written [] (p ∷ parts) is = absurd is
parts_written (component ∷ components) [] is = absurd is
parts_written (component ∷ components) (p ∷ parts) is = (part_written component p is.0, parts_written components parts is.1)

-- it is one of the design's
counted : (sums : Sums) → EachHas IsSum sums → AllByRecursion (λ (e : ℕ × ℕ). 0 < e.1) sums
counted [] each = tt
counted (sum ∷ sums) each = (let least = each.0.least in omega (arith, least), counted sums each.1)

sums_tally : (sums : Sums) → AreSums sums → IsTally sums
sums_tally sums is = record { ascending = is.ascending; counted = counted sums is.each }

empty_tally : IsTally []
empty_tally = record { ascending = tt; counted = tt }

one_shape : (shape : CellForm) (starts : List Value) → IsGoodForm shape → OneShape (filled_with shape starts) (filled_with shape starts)
one_shape shape starts good = record { good = subst IsGoodForm (sym (filled_shape shape starts)) good; same = refl }

part_goes : TellsApart value_order → (component : ComponentForm) (p : Part) → HasStarts component → IsPart component p → PartsKin p (part_of component [])
part_goes apart (a_cell shape starts effects) (part.Cell cell) has is = record { good = subst IsGoodForm (sym is.shaped) has.0; same = is.shaped ∙ sym (filled_shape shape starts) }
part_goes apart (a_table key shape starts effects) (part.Table table) has is =
    maps_go cell_laws table (record { start = filled_with shape starts; entries = [] }) apart is.map_is (record { ascending = tt; kept = tt }) is.start_is
    (subst (λ s. OneShape s s) (sym is.start_is) (one_shape shape starts has.0))
part_goes apart (a_set key effects) (part.Set keys) has is = record { tells_apart = apart; left = is.ascending; right = tt }
part_goes apart (a_tally effects) (part.Tally sums) has is = record { left = sums_tally sums is; right = empty_tally }
part_goes apart (tallies key effects) (part.Tallies table) has is =
    maps_go tally_laws table (record { start = []; entries = [] }) apart is.map_is (record { ascending = tt; kept = tt }) is.start_is
    (subst (λ s. TalliesKin s s) (sym is.start_is) (record { left = empty_tally; right = empty_tally }))
part_goes apart (a_cell shape starts effects) _ has is = absurd is
part_goes apart (a_table key shape starts effects) _ has is = absurd is
part_goes apart (a_set key effects) _ has is = absurd is
part_goes apart (a_tally effects) _ has is = absurd is
part_goes apart (tallies key effects) _ has is = absurd is

pub parts_go : TellsApart value_order → (ops : List OpSig) (components : List ComponentForm) (parts : List Part) → EachHas (IsComponent ops) components → AreMatched IsPart components parts
    → are_kin PartsKin parts (states_of (map component_meaning components) [])
parts_go apart ops [] [] each is = tt
parts_go apart ops [] (p ∷ parts) each is = absurd is
parts_go apart ops (component ∷ components) [] each is = absurd is
parts_go apart ops (component ∷ components) (p ∷ parts) each is = (part_goes apart component p (component_starts ops component each.0) is.0, parts_go apart ops components parts each.1 is.1)

-- each sum has room
sum_roomy : (n : ℕ) → n ≤ 10 ^ 18 → n ≤ room
sum_roomy n most = omega (arith, most)

sums_roomy : (sums : Sums) → EachHas IsSum sums → is_roomy sums ≡ true
sums_roomy [] each = refl
sums_roomy (sum ∷ sums) each = both_hold (nat_le sum.1 room) (is_roomy sums) (above sum.1 room (sum_roomy sum.1 each.0.most)) (sums_roomy sums each.1)

tallies_roomy : (key : Sort) (es : List (Value × Sums)) → EachHas (IsEntry key AreSums) es → list_all (λ (e : Value × Sums). is_roomy e.1) es ≡ true
tallies_roomy key [] each = refl
tallies_roomy key (e ∷ es) each = both_hold (is_roomy e.1) (list_all (λ (e : Value × Sums). is_roomy e.1) es) (sums_roomy e.1 each.0.1.each) (tallies_roomy key es each.1)

part_roomy : (component : ComponentForm) (p : Part) → IsPart component p → is_roomy_part p ≡ true
part_roomy (a_cell shape starts effects) (part.Cell cell) is = refl
part_roomy (a_table key shape starts effects) (part.Table table) is = refl
part_roomy (a_set key effects) (part.Set keys) is = refl
part_roomy (a_tally effects) (part.Tally sums) is = sums_roomy sums is.each
part_roomy (tallies key effects) (part.Tallies table) is = tallies_roomy key table.entries is.each
part_roomy (a_cell shape starts effects) _ is = absurd is
part_roomy (a_table key shape starts effects) _ is = absurd is
part_roomy (a_set key effects) _ is = absurd is
part_roomy (a_tally effects) _ is = absurd is
part_roomy (tallies key effects) _ is = absurd is

pub parts_roomy : (components : List ComponentForm) (parts : List Part) → AreMatched IsPart components parts → list_all is_roomy_part parts ≡ true
parts_roomy [] [] is = refl
parts_roomy [] (p ∷ parts) is = absurd is
parts_roomy (component ∷ components) [] is = absurd is
parts_roomy (component ∷ components) (p ∷ parts) is =
    both_hold (is_roomy_part p) (list_all is_roomy_part parts) (part_roomy component p is.0) (parts_roomy components parts is.1)

-- its numbers are small
more_small : (v : Value) → IsAtMost (2 ^ 64) v → IsAtMost (2 ^ 100) v
more_small (value.Bool b) low = tt
more_small (value.Num z) low = omega (arith, low)
more_small (value.Name code) low = tt

each_small : (vs : List Value) → EachHas IsWritten vs → AllByRecursion (IsAtMost (2 ^ 100)) vs
each_small [] each = tt
each_small (v ∷ vs) each = (more_small v (written_small v each.0), each_small vs each.1)

cell_small : (cell : Filled) → EachHas IsWritten (leaves_of cell) → IsSmallCell cell
cell_small cell each = All-from_recursion (IsAtMost (2 ^ 100)) (leaves_of cell) (each_small (leaves_of cell) each)

each_count : (sums : Sums) → EachHas IsSum sums → AllByRecursion (IsCount (10 ^ 18)) sums
each_count [] each = tt
each_count (sum ∷ sums) each = (record { numbered = each.0.least_replica; few = each.0.most_replica; low = each.0.most }, each_count sums each.1)

each_low : (sums : Sums) → EachHas IsSum sums → AllByRecursion (λ (e : ℕ × ℕ). e.1 ≤ 2 ^ 100) sums
each_low [] each = tt
each_low (sum ∷ sums) each = (let most = each.0.most in omega (arith, most), each_low sums each.1)

tally_small : (sums : Sums) → AreSums sums → IsSmallTally sums
tally_small sums is = record {
  few = few_sums (10 ^ 18) sums (record { tally = sums_tally sums is; each = each_count sums is.each });
  each = All-from_recursion (λ (e : ℕ × ℕ). e.1 ≤ 2 ^ 100) sums (each_low sums is.each);
}

empty_small : IsSmallTally []
empty_small = tally_small [] (record { ascending = tt; each = tt })

entries_small : {V : Type 0} (key : Sort) (Is Small : V → Type 0) → ((v : V) → Is v → Small v) → (es : List (Value × V)) → EachHas (IsEntry key Is) es → AllByRecursion (λ (e : Value × V). Small e.1) es
entries_small key Is Small small [] each = tt
entries_small key Is Small small (e ∷ es) each = (small e.1 each.0.1, entries_small key Is Small small es each.1)

start_small : (shape : CellForm) (starts : List Value) → AreMatched IsStart starts (kinds_of shape) → IsSmallCell (filled_with shape starts)
start_small shape starts each =
    cell_small (filled_with shape starts)
    (subst (λ vs. EachHas IsWritten vs) (sym (filled_leaves shape starts (starts_fit shape starts each))) (each_written starts (kinds_of shape) each))

part_small : (ops : List OpSig) (component : ComponentForm) (p : Part) → IsComponent ops component → IsPart component p → IsSmallPart p
part_small ops (a_cell shape starts effects) (part.Cell cell) has is = cell_small cell is.written
part_small ops (a_table key shape starts effects) (part.Table table) has is = record {
  start = subst IsSmallCell (sym is.start_is) (start_small shape starts has.2);
  each = All-from_recursion (λ (e : Value × Filled). IsSmallCell e.1) table.entries (entries_small key (IsCell shape) IsSmallCell (λ cell h. cell_small cell h.written) table.entries is.each);
}
part_small ops (a_set key effects) (part.Set keys) has is = tt
part_small ops (a_tally effects) (part.Tally sums) has is = tally_small sums is
part_small ops (tallies key effects) (part.Tallies table) has is = record {
  start = subst IsSmallTally (sym is.start_is) empty_small;
  each = All-from_recursion (λ (e : Value × Sums). IsSmallTally e.1) table.entries (entries_small key AreSums IsSmallTally tally_small table.entries is.each);
}
part_small ops (a_cell shape starts effects) _ has is = absurd is
part_small ops (a_table key shape starts effects) _ has is = absurd is
part_small ops (a_set key effects) _ has is = absurd is
part_small ops (a_tally effects) _ has is = absurd is
part_small ops (tallies key effects) _ has is = absurd is

each_part_small : (ops : List OpSig) (components : List ComponentForm) (parts : List Part) → EachHas (IsComponent ops) components → AreMatched IsPart components parts
    → AllByRecursion IsSmallPart parts
each_part_small ops [] [] each is = tt
each_part_small ops [] (p ∷ parts) each is = absurd is
each_part_small ops (component ∷ components) [] each is = absurd is
each_part_small ops (component ∷ components) (p ∷ parts) each is = (part_small ops component p each.0 is.0, each_part_small ops components parts each.1 is.1)

pub parts_small : (ops : List OpSig) (components : List ComponentForm) (parts : List Part) → EachHas (IsComponent ops) components → AreMatched IsPart components parts
    → All IsSmallPart parts
parts_small ops components parts each is = All-from_recursion IsSmallPart parts (each_part_small ops components parts each is)
