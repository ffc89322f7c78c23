use Rattle.std.proofs.Common.{◌≡◌, ◌++◌, drop}
use Rattle.kat_candidate.specs.Forms.{each_of, match_of, sides_form}
use Rattle.kat_candidate.proofs.forms.push_matches_with.Given as goal

abbrev pub invariant-loop-constant : goal.invariant-loop-constant
invariant-loop-constant l = l.into.items ++ each_of (match_of (sides_form l.sides) l.first l.position l.second) (drop l.constant-index l.constants) ≡ l.fn.into.items ++ each_of (match_of (sides_form l.sides) l.first l.position l.second) l.constants
