-- The parts of a state: which go together, and their join.
use Rattle.std.specs.Prelude.{List, [], ◌∷◌}
use Rattle.kat_num.specs.Orders.{value_order}
use Rattle.kat_lattice.specs.Maps.{MapsKin, maps_joined}
use Rattle.kat_lattice.specs.Sets.{SetsKin, sets_joined}
use Rattle.kat_lattice.specs.Tallies.{TalliesKin, tallies_joined}
use Rattle.kat_shape.specs.Values.{OneShape, joined}
use Rattle.kat_design.specs.declared.states.Part.{Part}
use Rattle.kat_design.specs.declared.states.Part.TheVariants as part

-- two parts go together if both are of one kind and their contents go together: cells of one shape, tables of one
-- start with such cells at each key, any two sets, any two tallies, and tallies at each key
abbrev pub PartsKin : Part → Part → Type 0
PartsKin (part.Cell a) (part.Cell b) = OneShape a b
PartsKin (part.Table a) (part.Table b) = MapsKin value_order OneShape joined a b
PartsKin (part.Set a) (part.Set b) = SetsKin value_order a b
PartsKin (part.Tally a) (part.Tally b) = TalliesKin a b
PartsKin (part.Tallies a) (part.Tallies b) = MapsKin value_order TalliesKin tallies_joined a b
PartsKin _ _ = ⊥

-- the join of two parts: cells by their shape, tables at each key, sets by union, tallies by the greater sum of each replica
abbrev pub part_joined : Part → Part → Part
part_joined (part.Cell a) (part.Cell b) = part.Cell (joined a b)
part_joined (part.Table a) (part.Table b) = part.Table (maps_joined value_order joined a b)
part_joined (part.Set a) (part.Set b) = part.Set (sets_joined value_order a b)
part_joined (part.Tally a) (part.Tally b) = part.Tally (tallies_joined a b)
part_joined (part.Tallies a) (part.Tallies b) = part.Tallies (maps_joined value_order tallies_joined a b)
part_joined a _ = a

-- the join of two states, part by part
abbrev pub parts_joined : List Part → List Part → List Part
parts_joined [] ys = []
parts_joined (x ∷ xs) [] = x ∷ xs
parts_joined (x ∷ xs) (y ∷ ys) = part_joined x y ∷ parts_joined xs ys
