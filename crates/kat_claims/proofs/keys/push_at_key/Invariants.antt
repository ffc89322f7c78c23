use Rattle.std.proofs.Common.{◌≡◌, ◌++◌, drop}
use Rattle.kat_claims.specs.Places.{at_key}
use Rattle.kat_claims.proofs.keys.push_at_key.Given as goal

abbrev pub invariant-loop-place : goal.invariant-loop-place
invariant-loop-place l = l.into.items ++ at_key l.at (drop l.place-index l.places) ≡ l.fn.into.items ++ at_key l.at l.places
