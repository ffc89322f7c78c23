use Rattle.std.proofs.Common.{◌≡◌, None}
use Rattle.std.specs.Prelude.{replicate}
use Rattle.kat_world.proofs.checkpoints.no_checkpoints.Given as goal

abbrev pub invariant-loop : goal.invariant-loop
invariant-loop l = l.points.items ≡ replicate l.counter None
