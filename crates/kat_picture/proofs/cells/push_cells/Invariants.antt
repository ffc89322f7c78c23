use Rattle.std.proofs.Common.{◌≡◌, ◌++◌}
use Rattle.kat_picture.specs.Lanes.{for_each}
use Rattle.kat_picture.specs.Plain.{cell}
use Rattle.kat_picture.proofs.cells.push_cells.Given as goal

abbrev pub invariant-loop-number : goal.invariant-loop-number
invariant-loop-number l = l.into.items ≡ l.fn.into.items ++ for_each (cell l.gap l.kind l.at) l.number
