use Rattle.std.proofs.Common.{◌≡◌, Some, take}
use Rattle.kat_linear.specs.Rows.{forms}
use Rattle.kat_form.specs.Encodings.{senses_of}
use Rattle.kat_refute.specs.Weighed.{weighed_denials}
use Rattle.kat_refute.proofs.denials.Given as goal

abbrev pub invariant-loop-i : goal.invariant-loop-i
invariant-loop-i l = weighed_denials (senses_of l.meanings) (take l.i l.literals) (take l.i l.multipliers) ≡ Some (forms l.rows.items)
