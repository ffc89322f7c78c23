use Rattle.std.proofs.Common.{◌≡◌, ◌++◌, drop}
use Rattle.kat_claims.specs.Places.{places_by}
use Rattle.kat_claims.proofs.spots.places_by.Given as goal

abbrev pub invariant-loop-spot : goal.invariant-loop-spot
invariant-loop-spot l = l.places.items ++ places_by l.key (drop l.spot-index l.spots) ≡ places_by l.key l.spots
