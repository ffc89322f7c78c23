use Rattle.std.proofs.Common.{◌≡◌}
use Rattle.std.specs.Prelude.{replicate}
use Rattle.kat_world.proofs.times.Holders.new.Given as goal

abbrev pub invariant-loop : goal.invariant-loop
invariant-loop l = l.latest.items ≡ replicate l.counter (replicate l.replicas 0)
