use Rattle.std.proofs.Common.{◌≡◌, ◌++◌, drop}
use Rattle.kat_candidate.specs.Forms.{each_of, matches_of, sides_form}
use Rattle.kat_candidate.proofs.forms.push_matches.Given as goal

abbrev pub invariant-loop-leaf : goal.invariant-loop-leaf
invariant-loop-leaf l = l.into.items ++ each_of (matches_of (sides_form l.sides) l.constants l.leaves l.positions) (drop l.leaf-index l.leaves) ≡ l.fn.into.items ++ each_of (matches_of (sides_form l.sides) l.constants l.leaves l.positions) l.leaves
