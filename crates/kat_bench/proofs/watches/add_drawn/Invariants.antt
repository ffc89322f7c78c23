use Rattle.std.proofs.Common.{◌≡◌}
use Rattle.kat_bench.proofs.watches.add_drawn.Given as goal

abbrev pub invariant-loop : goal.invariant-loop
invariant-loop l = l.watches.greatest ≡ 5_000
