use Rattle.std.proofs.Common.{◌≡◌, ◌++◌, drop}
use Rattle.kat_candidate.specs.Forms.{each_of, at_least_of, sides_form}
use Rattle.kat_candidate.proofs.forms.push_at_leasts_of.Given as goal

abbrev pub invariant-loop-constant : goal.invariant-loop-constant
invariant-loop-constant l = l.into.items ++ each_of (at_least_of (sides_form l.sides) l.leaf) (drop l.constant-index l.constants) ≡ l.fn.into.items ++ each_of (at_least_of (sides_form l.sides) l.leaf) l.constants
