use Rattle.std.proofs.Common.{◌≡◌, take}
use Rattle.kat_world.specs.Tracked.{known_of}
use Rattle.kat_world.proofs.checkpoints.agreed.Given as goal

abbrev pub invariant-loop-at : goal.invariant-loop-at
invariant-loop-at l = known_of l.old (take l.at l.order) ≡ known_of l.new (take l.at l.order)
