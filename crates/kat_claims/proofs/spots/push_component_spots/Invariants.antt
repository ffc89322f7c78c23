use Rattle.std.proofs.Common.{◌≡◌, ◌++◌, drop}
use Rattle.std.proofs.Common.{map}
use Rattle.kat_design.specs.Designs.{component_form}
use Rattle.kat_claims.specs.Places.{component_spots}
use Rattle.kat_claims.proofs.spots.push_component_spots.Given as goal

abbrev pub invariant-loop-i : goal.invariant-loop-i
invariant-loop-i l = l.into.items ++ component_spots l.i (map component_form (drop l.i l.components)) ≡ l.fn.into.items ++ component_spots 0 (map component_form l.components)
