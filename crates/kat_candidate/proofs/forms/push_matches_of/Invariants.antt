use Rattle.std.proofs.Common.{◌≡◌, ◌++◌, drop}
use Rattle.kat_candidate.specs.Forms.{each_of, matches_at, sides_form}
use Rattle.kat_candidate.proofs.forms.push_matches_of.Given as goal

abbrev pub invariant-loop-position : goal.invariant-loop-position
invariant-loop-position l = l.into.items ++ each_of (matches_at (sides_form l.sides) l.constants l.leaves l.first) (drop l.position-index l.positions) ≡ l.fn.into.items ++ each_of (matches_at (sides_form l.sides) l.constants l.leaves l.first) l.positions
