use Rattle.std.proofs.Common.{◌≡◌, ◌++◌, drop}
use Rattle.kat_candidate.specs.Forms.{each_of, first_bound_of, sides_form}
use Rattle.kat_candidate.proofs.forms.push_bounds.Given as goal

abbrev pub invariant-loop-leaf : goal.invariant-loop-leaf
invariant-loop-leaf l = l.into.items ++ each_of (first_bound_of (sides_form l.sides) l.leaves l.numbers l.positions) (drop l.leaf-index l.leaves) ≡ l.fn.into.items ++ each_of (first_bound_of (sides_form l.sides) l.leaves l.numbers l.positions) l.leaves
