-- Used inside only.
-- A part before a step.
use Rattle.std.specs.Prelude.{◌≡◌}
use Rattle.kat_num.specs.Orders.{value_order}
use Rattle.kat_lattice.specs.Keyed.{IsAscending}
use Rattle.kat_lattice.specs.Maps.{IsMap}
use Rattle.kat_lattice.specs.Tallies.{IsTally, TalliesKin, tallies_joined}
use Rattle.kat_lattice.specs.Undos.{IsInside, taken_back}
use Rattle.kat_shape.specs.Values.{OneShape, joined}
use Rattle.kat_design.specs.declared.states.Part.{Part}
use Rattle.kat_design.specs.declared.states.Part.TheVariants as part
use Rattle.kat_replica.specs.declared.undo.PartUndo.{PartUndo}
use Rattle.kat_replica.specs.declared.undo.PartUndo.TheVariants as undo

-- the part with the step taken back
abbrev pub part_taken_back : PartUndo → Part → Part
part_taken_back undo.Same p = p
part_taken_back (undo.Cell was) (part.Cell cell) = part.Cell was
part_taken_back (undo.Table step) (part.Table table) = part.Table (record { start = table.start; entries = taken_back step table.entries })
part_taken_back (undo.Set step) (part.Set keys) = part.Set (taken_back step keys)
part_taken_back (undo.Tally step) (part.Tally sums) = part.Tally (taken_back step sums)
part_taken_back (undo.Tallies step) (part.Tallies table) = part.Tallies (record { start = table.start; entries = taken_back step table.entries })
part_taken_back _ p = p

-- the step was one of this kind of part, and what it leaves when it is taken back has what the part keeps
abbrev pub IsBackable : PartUndo → Part → Type 0
IsBackable undo.Same p = Unit {0}
IsBackable (undo.Cell was) (part.Cell cell) = Unit {0}
IsBackable (undo.Table step) (part.Table table) =
    IsInside step table.entries × IsMap value_order OneShape joined (record { start = table.start; entries = taken_back step table.entries })
IsBackable (undo.Set step) (part.Set keys) = IsInside step keys × IsAscending value_order (taken_back step keys)
IsBackable (undo.Tally step) (part.Tally sums) = IsInside step sums × IsTally (taken_back step sums)
IsBackable (undo.Tallies step) (part.Tallies table) =
    IsInside step table.entries × IsMap value_order TalliesKin tallies_joined (record { start = table.start; entries = taken_back step table.entries })
IsBackable _ _ = ⊥

-- taking the step back from new gives old
pub record UndoesPart (step : PartUndo) (old new : Part) : Type 0 where
  pub backable : IsBackable step new
  pub back : part_taken_back step new ≡ old
