use Rattle.std.proofs.Common.{◌≡◌, ◌++◌, drop}
use Rattle.kat_candidate.specs.Forms.{each_of, at_leasts_of, sides_form}
use Rattle.kat_candidate.proofs.forms.push_at_leasts.Given as goal

abbrev pub invariant-loop-leaf : goal.invariant-loop-leaf
invariant-loop-leaf l = l.into.items ++ each_of (at_leasts_of (sides_form l.sides) l.constants) (drop l.leaf-index l.leaves) ≡ l.fn.into.items ++ each_of (at_leasts_of (sides_form l.sides) l.constants) l.leaves
