use Rattle.std.proofs.Common.{◌≡◌, ◌++◌, drop}
use Rattle.kat_claims.specs.Places.{natural_kept}
use Rattle.kat_claims.proofs.naturals.push_natural_kept.Given as goal

abbrev pub invariant-loop-spot : goal.invariant-loop-spot
invariant-loop-spot l = l.into.items ++ natural_kept (drop l.spot-index l.spots) l.keys ≡ l.fn.into.items ++ natural_kept l.spots l.keys
