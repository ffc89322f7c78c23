use Rattle.std.proofs.Common.{◌≡◌, ◌++◌, drop}
use Rattle.kat_claims.specs.Places.{at_each}
use Rattle.kat_claims.proofs.keys.push_at_each.Given as goal

abbrev pub invariant-loop-instance : goal.invariant-loop-instance
invariant-loop-instance l = l.into.items ++ at_each (drop l.instance-index l.instances) l.places ≡ l.fn.into.items ++ at_each l.instances l.places
