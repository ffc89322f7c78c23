use Rattle.std.proofs.Common.{◌≡◌, ◌++◌, drop}
use Rattle.kat_claims.specs.Places.{natural_keys}
use Rattle.kat_claims.proofs.naturals.push_natural_keys.Given as goal

abbrev pub invariant-loop-key : goal.invariant-loop-key
invariant-loop-key l = l.into.items ++ natural_keys (drop l.key-index l.keys) ≡ l.fn.into.items ++ natural_keys l.keys
