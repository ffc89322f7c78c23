use Rattle.std.proofs.Common.{◌≡◌, ◌++◌, drop}
use Rattle.kat_candidate.specs.Forms.{each_of, total_of, sides_form}
use Rattle.kat_candidate.proofs.forms.push_totals.Given as goal

abbrev pub invariant-loop-number : goal.invariant-loop-number
invariant-loop-number l = l.into.items ++ each_of (total_of (sides_form l.sides)) (drop l.number-index l.numbers) ≡ l.fn.into.items ++ each_of (total_of (sides_form l.sides)) l.numbers
