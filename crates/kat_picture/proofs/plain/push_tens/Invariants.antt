use Rattle.std.proofs.Common.{◌≡◌, ◌++◌}
use Rattle.kat_picture.specs.Lanes.{for_each}
use Rattle.kat_picture.specs.Plain.{gap_of, tens}
use Rattle.kat_picture.proofs.plain.push_tens.Given as goal

abbrev pub invariant-loop-number : goal.invariant-loop-number
invariant-loop-number l = l.into.items ≡ l.fn.into.items ++ for_each (tens (gap_of l.replicas)) l.number
