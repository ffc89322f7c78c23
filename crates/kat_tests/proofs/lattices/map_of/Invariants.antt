use Rattle.std.proofs.Common.{◌≡◌, pos}
use Rattle.kat_tests.proofs.lattices.map_of.Given as goal

abbrev pub invariant-loop-entry : goal.invariant-loop-entry
invariant-loop-entry l = l.map.start ≡ record { 0 = pos 0 }
