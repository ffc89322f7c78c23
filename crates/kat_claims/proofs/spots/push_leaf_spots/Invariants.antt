use Rattle.std.proofs.Common.{◌≡◌, ◌++◌, drop}
use Rattle.kat_claims.specs.Places.{leaf_spots}
use Rattle.kat_claims.proofs.spots.push_leaf_spots.Given as goal

abbrev pub invariant-loop-i : goal.invariant-loop-i
invariant-loop-i l = l.into.items ++ leaf_spots l.component l.key l.i (drop l.i l.kinds) ≡ l.fn.into.items ++ leaf_spots l.component l.key 0 l.kinds
