use Rattle.std.proofs.Common.{◌≡◌, ◌++◌, drop}
use Rattle.kat_claims.specs.Places.{names_at}
use Rattle.kat_claims.proofs.naturals.push_names_at.Given as goal

abbrev pub invariant-loop-at : goal.invariant-loop-at
invariant-loop-at l = l.into.items ++ names_at l.place (drop l.at-index l.ats) ≡ l.fn.into.items ++ names_at l.place l.ats
