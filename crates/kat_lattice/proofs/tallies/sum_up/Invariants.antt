use Rattle.std.proofs.Common.{◌≡◌, take}
use Rattle.kat_lattice.specs.Tallies.{total_of}
use Rattle.kat_lattice.proofs.tallies.sum_up.Given as goal

abbrev pub invariant-loop-entry : goal.invariant-loop-entry
invariant-loop-entry l = l.total ≡ total_of (take l.entry-index l.sums)
