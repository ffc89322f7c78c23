use Rattle.std.proofs.Common.{◌≡◌, ◌++◌, drop}
use Rattle.kat_claims.specs.Places.{argument_keys}
use Rattle.kat_claims.proofs.keys.push_argument_keys.Given as goal

abbrev pub invariant-loop-i : goal.invariant-loop-i
invariant-loop-i l = l.into.items ++ argument_keys l.i (drop l.i l.params) ≡ l.fn.into.items ++ argument_keys 0 l.params
