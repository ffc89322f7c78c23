use Rattle.std.proofs.Common.{◌≡◌, ◌++◌, ◌+◌, ◌*◌, drop, length}
use Rattle.kat_candidate.specs.Forms.{behind_leaf, bound_of, bounds_of, each_of, sides_form}
use Rattle.kat_candidate.proofs.forms.+bounds.Given as goal

abbrev pub decreases-push_bounds_of : goal.decreases-push_bounds_of
decreases-push_bounds_of l = 4 * length l.positions.now

abbrev pub decreases-push_bounds_with : goal.decreases-push_bounds_with
decreases-push_bounds_with l = 4 * length l.positions.now + 3

abbrev pub decreases-push_longer : goal.decreases-push_longer
decreases-push_longer l = 4 * length l.positions.now + 2

abbrev pub decreases-push_behind : goal.decreases-push_behind
decreases-push_behind l = 4 * length l.positions.now + 1

abbrev pub invariant-push_bounds_with-loop-number : goal.invariant-push_bounds_with-loop-number
invariant-push_bounds_with-loop-number l = l.into.items ++ each_of (bound_of (sides_form l.sides) l.texts.leaves.now (bounds_of (sides_form l.sides) l.texts.leaves.now l.texts.numbers.now l.positions) l.leaves) (drop l.number-index l.texts.numbers.now) ≡ l.fn.into.items ++ each_of (bound_of (sides_form l.sides) l.texts.leaves.now (bounds_of (sides_form l.sides) l.texts.leaves.now l.texts.numbers.now l.positions) l.leaves) l.texts.numbers.now

abbrev pub invariant-push_longer-loop-leaf : goal.invariant-push_longer-loop-leaf
invariant-push_longer-loop-leaf l = l.into.items ++ each_of (behind_leaf (bounds_of (sides_form l.sides) l.texts.leaves.now l.texts.numbers.now l.positions) l.leaves l.component) (drop l.leaf-index l.texts.leaves.now) ≡ l.fn.into.items ++ each_of (behind_leaf (bounds_of (sides_form l.sides) l.texts.leaves.now l.texts.numbers.now l.positions) l.leaves l.component) l.texts.leaves.now
