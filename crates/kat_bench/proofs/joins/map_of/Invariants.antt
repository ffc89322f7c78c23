use Rattle.std.proofs.Common.{◌≡◌, pos}
use Rattle.kat_bench.proofs.joins.map_of.Given as goal

abbrev pub invariant-loop-i : goal.invariant-loop-i
invariant-loop-i l = l.map.start ≡ record { 0 = pos 0 }
