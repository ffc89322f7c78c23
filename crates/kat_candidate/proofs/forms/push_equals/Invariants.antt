use Rattle.std.proofs.Common.{◌≡◌, ◌++◌, drop}
use Rattle.kat_candidate.specs.Forms.{each_of, equals_of, sides_form}
use Rattle.kat_candidate.proofs.forms.push_equals.Given as goal

abbrev pub invariant-loop-field : goal.invariant-loop-field
invariant-loop-field l = l.into.items ++ each_of (equals_of (sides_form l.sides) l.leaves) (drop l.field-index l.fields) ≡ l.fn.into.items ++ each_of (equals_of (sides_form l.sides) l.leaves) l.fields
