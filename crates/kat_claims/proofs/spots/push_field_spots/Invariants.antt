use Rattle.std.proofs.Common.{◌≡◌, ◌++◌, drop}
use Rattle.kat_claims.specs.Places.{field_spots}
use Rattle.kat_claims.proofs.spots.push_field_spots.Given as goal

abbrev pub invariant-loop-i : goal.invariant-loop-i
invariant-loop-i l = l.into.items ++ field_spots l.i (drop l.i l.fields) ≡ l.fn.into.items ++ field_spots 0 l.fields
