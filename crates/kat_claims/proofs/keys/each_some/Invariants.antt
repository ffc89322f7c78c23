use Rattle.std.proofs.Common.{◌≡◌, ◌++◌, drop}
use Rattle.kat_claims.specs.Places.{each_some}
use Rattle.kat_claims.proofs.keys.each_some.Given as goal

abbrev pub invariant-loop-instance : goal.invariant-loop-instance
invariant-loop-instance l = l.each.items ++ each_some (drop l.instance-index l.instances) ≡ each_some l.instances
