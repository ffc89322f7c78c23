-- Which nodes a state file can have.
use Rattle.std.specs.Prelude.{◌≡◌, ℕ, ◌^◌, ◌≤◌, pos, ◌≤ℤ◌, List, []}
use Rattle.std.specs.Ordering.{nat_cmp}
use Rattle.kat_num.specs.Names.{IsNameCode}
use Rattle.kat_num.specs.Orders.{value_order}
use Rattle.kat_num.specs.declared.values.Sort.{Sort}
use Rattle.kat_num.specs.declared.values.Sort.TheVariants as sort
use Rattle.kat_num.specs.declared.values.Value.{Value}
use Rattle.kat_num.specs.declared.values.Value.TheVariants as value
use Rattle.kat_lattice.specs.Keyed.{IsAscending, by_key}
use Rattle.kat_lattice.specs.Maps.{IsMap, Table}
use Rattle.kat_lattice.specs.Tallies.{Sums, TalliesKin, tallies_joined}
use Rattle.kat_shape.specs.Flats.{filled_with}
use Rattle.kat_shape.specs.Forms.{CellForm}
use Rattle.kat_shape.specs.Values.{Filled, OneShape, joined, leaves_of, shape_of}
use Rattle.kat_design.specs.Designs.{ComponentForm, DesignForm}
use Rattle.kat_design.specs.Designs.ComponentForm.{a_cell, a_table, a_set, a_tally, tallies}
use Rattle.kat_design.specs.Sorted.{AreMatched, EachHas, IsWritten}
use Rattle.kat_design.specs.declared.states.Part.{Part}
use Rattle.kat_design.specs.declared.states.Part.TheVariants as part
use Rattle.kat_node.specs.declared.nodes.Node.{Node}

-- a key of the sort that a file can have: a number of 64 bits, from 0 on for `nat`, or a name
abbrev pub IsKey : Sort → Value → Type 0
IsKey sort.Int (value.Num z) = IsWritten (value.Num z)
IsKey sort.Nat (value.Num z) = (pos 0 ≤ℤ z) × IsWritten (value.Num z)
IsKey sort.Name (value.Name code) = IsNameCode code
IsKey _ _ = ⊥

-- a cell of the shape, whose values a file can have
pub record IsCell (shape : CellForm) (cell : Filled) : Type 0 where
  pub shaped : shape_of cell ≡ shape
  pub written : EachHas IsWritten (leaves_of cell)

-- a replica's number from 1 to 32, and a sum from 1 to 10^18
pub record IsSum (sum : ℕ × ℕ) : Type 0 where
  pub least_replica : 1 ≤ sum.0
  pub most_replica : sum.0 ≤ 32
  pub least : 1 ≤ sum.1
  pub most : sum.1 ≤ 10 ^ 18

-- such sums, by replicas that ascend
pub record AreSums (sums : Sums) : Type 0 where
  pub ascending : IsAscending (by_key nat_cmp) sums
  pub each : EachHas IsSum sums

-- keys of the sort, with such values
abbrev pub IsEntry : {V : Type 0} → Sort → (V → Type 0) → Value × V → Type 0
IsEntry key Is entry = IsKey key entry.0 × Is entry.1

-- a table of the component: keys ascend, and no value is the start or other than its own join with it
pub record IsTable (key : Sort) (shape : CellForm) (start : Filled) (table : Table Value Filled) : Type 0 where
  pub start_is : table.start ≡ start
  pub map_is : IsMap value_order OneShape joined table
  pub each : EachHas (IsEntry key (IsCell shape)) table.entries

-- ascending keys of the sort
pub record IsSet (key : Sort) (keys : List Value) : Type 0 where
  pub ascending : IsAscending value_order keys
  pub each : EachHas (IsKey key) keys

-- tallies at keys that ascend, none of them empty
pub record AreTallies (key : Sort) (table : Table Value Sums) : Type 0 where
  pub start_is : table.start ≡ []
  pub map_is : IsMap value_order TalliesKin tallies_joined table
  pub each : EachHas (IsEntry key AreSums) table.entries

-- what a state file can have of a component
abbrev pub IsPart : ComponentForm → Part → Type 0
IsPart (a_cell shape starts effects) (part.Cell cell) = IsCell shape cell
IsPart (a_table key shape starts effects) (part.Table table) = IsTable key shape (filled_with shape starts) table
IsPart (a_set key effects) (part.Set keys) = IsSet key keys
IsPart (a_tally effects) (part.Tally sums) = AreSums sums
IsPart (tallies key effects) (part.Tallies table) = AreTallies key table
IsPart _ _ = ⊥

-- a replica's number from 1 to 32, a clock to 10^9, and a part for each component of the design
pub record IsNode (d : DesignForm) (node : Node) : Type 0 where
  pub least : 1 ≤ node.number
  pub most : node.number ≤ 32
  pub clock : node.replica.clock ≤ 10 ^ 9
  pub parts : AreMatched IsPart d.components node.replica.state.parts
