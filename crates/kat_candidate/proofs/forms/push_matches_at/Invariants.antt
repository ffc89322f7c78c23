use Rattle.std.proofs.Common.{◌≡◌, ◌++◌, drop}
use Rattle.kat_candidate.specs.Forms.{each_of, matches_with, sides_form}
use Rattle.kat_candidate.proofs.forms.push_matches_at.Given as goal

abbrev pub invariant-loop-second : goal.invariant-loop-second
invariant-loop-second l = l.into.items ++ each_of (matches_with (sides_form l.sides) l.constants l.first l.position) (drop l.second-index l.leaves) ≡ l.fn.into.items ++ each_of (matches_with (sides_form l.sides) l.constants l.first l.position) l.leaves
