-- A part that is made of one that a state file can have is one that it can have.
use Rattle.std.proofs.Common.{◌≡◌, List, [], ◌∷◌, sym, ◌∙◌, subst, inl, inr, arith}
use Rattle.std.specs.List.{AllByRecursion}
use Rattle.kat_num.specs.Orders.{value_order}
use Rattle.kat_num.specs.declared.values.Sort.{Sort}
use Rattle.kat_num.specs.declared.values.Value.{Value}
use Rattle.kat_lattice.specs.Maps.{IsKept, MapsKin, Table}
use Rattle.kat_lattice.specs.Tallies.{Sums, TalliesKin, tallies_joined}
use Rattle.kat_shape.specs.Flats.{filled_with}
use Rattle.kat_shape.specs.Forms.{CellForm}
use Rattle.kat_shape.specs.Values.{Filled, OneShape, joined}
use Rattle.kat_type.specs.Lists.{Has}
use Rattle.kat_design.specs.Denotations.{denotation_of}
use Rattle.kat_design.specs.Designs.{ComponentForm}
use Rattle.kat_design.specs.Designs.ComponentForm.{a_cell, a_table, a_set, a_tally, tallies}
use Rattle.kat_design.specs.Meanings.{are_kin}
use Rattle.kat_design.specs.Parts.{PartsKin}
use Rattle.kat_design.specs.Sorted.{AreMatched, EachHas}
use Rattle.kat_design.specs.declared.states.Part.{Part}
use Rattle.kat_design.specs.declared.states.Part.TheVariants as part
use Rattle.kat_difference.specs.Pieces.{AreEntriesOf, IsPieceOfMap, IsPieceOfOne, IsPieceOrStart, IsWhole}
use Rattle.kat_difference.specs.States.{ArePieces, IsPieceOfPart}
use Rattle.kat_node.specs.Nodes.{AreSums, AreTallies, IsCell, IsEntry, IsKey, IsPart, IsSum, IsTable}
use Rattle.kat_node.specs.Packets.{parts_of}
use Rattle.kat_share.specs.NodeDifferences.{DifferencesAreNodes}
use Rattle.kat_step.proofs.Acting.{begins}

-- what each of a list has, one of it has
one_has : {E : Type 0} (P : E → Type 0) (xs : List E) (x : E) → EachHas P xs → Has xs x → P x
one_has P [] x each has = absurd has
one_has {E} P (y ∷ ys) x each (inl same) = subst P same each.0
one_has P (y ∷ ys) x each (inr later) = one_has P ys x each.1 later

-- and so each of the entries that were told
told_have : {E : Type 0} (P : E → Type 0) (xs ds : List E) → EachHas P xs → AreEntriesOf xs ds → EachHas P ds
told_have P xs [] each told = tt
told_have P xs (d ∷ ds) each told = (one_has P xs d each told.0, told_have P xs ds each told.1)

cell_is : (shape : CellForm) (start whole told : Filled) → IsCell shape start → IsCell shape whole → IsPieceOrStart IsWhole start whole told → IsCell shape told
cell_is shape start whole told s w (inl is) = subst (IsCell shape) (sym is) w
cell_is shape start whole told s w (inr is) = subst (IsCell shape) (sym is) s

-- an entry of a table has the key and the cell of one that was there
table_entry : (key : Sort) (shape : CellForm) (xs : List (Value × Filled)) (d : Value × Filled) → EachHas (IsEntry key (IsCell shape)) xs → IsPieceOfOne IsWhole xs d → IsEntry key (IsCell shape) d
table_entry key shape xs d each p =
    let there : IsEntry key (IsCell shape) p.entry = one_has (IsEntry key (IsCell shape)) xs p.entry each p.has in
    (subst (IsKey key) (sym p.key) there.0, subst (IsCell shape) (sym p.value) there.1)

table_entries : (key : Sort) (shape : CellForm) (xs ds : List (Value × Filled)) → EachHas (IsEntry key (IsCell shape)) xs → AllByRecursion (IsPieceOfOne IsWhole xs) ds → EachHas (IsEntry key (IsCell shape)) ds
table_entries key shape xs [] each told = tt
table_entries key shape xs (d ∷ ds) each told = (table_entry key shape xs d each told.0, table_entries key shape xs ds each told.1)

table_is : (key : Sort) (shape : CellForm) (start : Filled) (known whole told : Table Value Filled) → IsTable key shape start whole → MapsKin value_order OneShape joined known told → IsPieceOfMap IsWhole whole told → IsTable key shape start told
table_is key shape start known whole told w goes p = record {
  start_is = p.start ∙ w.start_is;
  map_is = goes.right;
  each = table_entries key shape whole.entries told.entries w.each p.entries;
}

-- an entry of tallies has the key of one that was there, and some of its sums
tally_entry : (key : Sort) (start : Sums) (xs : List (Value × Sums)) (d : Value × Sums) → EachHas (IsEntry key AreSums) xs → IsPieceOfOne AreEntriesOf xs d → IsKept TalliesKin tallies_joined start d.1 → IsEntry key AreSums d
tally_entry key start xs d each p kept =
    let there : IsEntry key AreSums p.entry = one_has (IsEntry key AreSums) xs p.entry each p.has in
    (subst (IsKey key) (sym p.key) there.0, record { ascending = kept.goes.right.ascending; each = told_have IsSum p.entry.1 d.1 there.1.each p.value })

tally_entries : (key : Sort) (start : Sums) (xs ds : List (Value × Sums)) → EachHas (IsEntry key AreSums) xs → AllByRecursion (IsPieceOfOne AreEntriesOf xs) ds → AllByRecursion (λ (e : Value × Sums). IsKept TalliesKin tallies_joined start e.1) ds → EachHas (IsEntry key AreSums) ds
tally_entries key start xs [] each told kept = tt
tally_entries key start xs (d ∷ ds) each told kept = (tally_entry key start xs d each told.0 kept.0, tally_entries key start xs ds each told.1 kept.1)

tallies_are : (key : Sort) (known whole told : Table Value Sums) → AreTallies key whole → MapsKin value_order TalliesKin tallies_joined known told → IsPieceOfMap AreEntriesOf whole told → AreTallies key told
tallies_are key known whole told w goes p = record {
  start_is = p.start ∙ w.start_is;
  map_is = goes.right;
  each = tally_entries key told.start whole.entries told.entries w.each p.entries goes.right.kept;
}

part_is : (component : ComponentForm) (start known whole told : Part) → IsPart component start → IsPart component whole → PartsKin known told → IsPieceOfPart start whole told → IsPart component told
part_is (a_cell shape starts effects) (part.Cell s) known (part.Cell w) (part.Cell t) begun is goes piece = cell_is shape s w t begun is piece
part_is (a_cell shape starts effects) (part.Cell s) known (part.Cell w) _ begun is goes piece = absurd piece
part_is (a_cell shape starts effects) (part.Cell s) known _ told begun is goes piece = absurd is
part_is (a_cell shape starts effects) _ known whole told begun is goes piece = absurd begun
part_is (a_table key shape starts effects) (part.Table s) (part.Table k) (part.Table w) (part.Table t) begun is goes piece =
    table_is key shape (filled_with shape starts) k w t is goes piece
part_is (a_table key shape starts effects) (part.Table s) _ (part.Table w) (part.Table t) begun is goes piece = absurd goes
part_is (a_table key shape starts effects) (part.Table s) known (part.Table w) _ begun is goes piece = absurd piece
part_is (a_table key shape starts effects) (part.Table s) known _ told begun is goes piece = absurd is
part_is (a_table key shape starts effects) _ known whole told begun is goes piece = absurd begun
part_is (a_set key effects) (part.Set s) (part.Set k) (part.Set w) (part.Set t) begun is goes piece = record { ascending = goes.right; each = told_have (IsKey key) w t is.each piece }
part_is (a_set key effects) (part.Set s) _ (part.Set w) (part.Set t) begun is goes piece = absurd goes
part_is (a_set key effects) (part.Set s) known (part.Set w) _ begun is goes piece = absurd piece
part_is (a_set key effects) (part.Set s) known _ told begun is goes piece = absurd is
part_is (a_set key effects) _ known whole told begun is goes piece = absurd begun
part_is (a_tally effects) (part.Tally s) (part.Tally k) (part.Tally w) (part.Tally t) begun is goes piece = record { ascending = goes.right.ascending; each = told_have IsSum w t is.each piece }
part_is (a_tally effects) (part.Tally s) _ (part.Tally w) (part.Tally t) begun is goes piece = absurd goes
part_is (a_tally effects) (part.Tally s) known (part.Tally w) _ begun is goes piece = absurd piece
part_is (a_tally effects) (part.Tally s) known _ told begun is goes piece = absurd is
part_is (a_tally effects) _ known whole told begun is goes piece = absurd begun
part_is (tallies key effects) (part.Tallies s) (part.Tallies k) (part.Tallies w) (part.Tallies t) begun is goes piece = tallies_are key k w t is goes piece
part_is (tallies key effects) (part.Tallies s) _ (part.Tallies w) (part.Tallies t) begun is goes piece = absurd goes
part_is (tallies key effects) (part.Tallies s) known (part.Tallies w) _ begun is goes piece = absurd piece
part_is (tallies key effects) (part.Tallies s) known _ told begun is goes piece = absurd is
part_is (tallies key effects) _ known whole told begun is goes piece = absurd begun

parts_are : (components : List ComponentForm) (starts knowns wholes tolds : List Part) → AreMatched IsPart components starts → AreMatched IsPart components wholes → are_kin PartsKin knowns tolds → ArePieces starts wholes tolds → AreMatched IsPart components tolds
parts_are [] [] knowns [] [] begun is goes pieces = tt
parts_are [] [] knowns [] (t ∷ ts) begun is goes pieces = absurd pieces
parts_are [] [] knowns (w ∷ ws) tolds begun is goes pieces = absurd is
parts_are [] (s ∷ ss) knowns wholes tolds begun is goes pieces = absurd begun
parts_are (x ∷ xs) [] knowns wholes tolds begun is goes pieces = absurd begun
parts_are (x ∷ xs) (s ∷ ss) knowns [] tolds begun is goes pieces = absurd is
parts_are (x ∷ xs) (s ∷ ss) knowns (w ∷ ws) [] begun is goes pieces = absurd pieces
parts_are (x ∷ xs) (s ∷ ss) [] (w ∷ ws) (t ∷ ts) begun is goes pieces = absurd goes
parts_are (x ∷ xs) (s ∷ ss) (k ∷ ks) (w ∷ ws) (t ∷ ts) begun is goes pieces =
    (part_is x s k w t begun.0 is.0 goes.0 pieces.0, parts_are xs ss ks ws ts begun.1 is.1 goes.1 pieces.1)

pub differences_are_nodes : DifferencesAreNodes
differences_are_nodes d known whole told sorted is difference =
    let number : told.number ≡ whole.number = difference.number in
    let clock : told.replica.clock ≡ whole.replica.clock = difference.clock in
    let low = is.least in
    let high = is.most in
    let late = is.clock in
    record {
      least = omega (arith, number, low);
      most = omega (arith, number, high);
      clock = omega (arith, clock, late);
      parts = parts_are d.components (denotation_of d []) (parts_of known) (parts_of whole) (parts_of told) (begins d 1 sorted (omega arith) (omega arith)).parts is.parts difference.state.goes difference.state.pieces;
    }
