use Rattle.std.proofs.Common.{◌≡◌, ◌+◌, ◌++◌, drop}
use Rattle.kat_clause.specs.Valuations.{literal_value}
use Rattle.kat_form.specs.Encodings.{senses_of}
use Rattle.kat_cases.specs.Nodes.{truths_from}
use Rattle.kat_point.specs.Values.{value_at}
use Rattle.kat_point.proofs.checking.truths.Given as goal

abbrev pub invariant-loop-i : goal.invariant-loop-i
invariant-loop-i l = l.truths.items ++ truths_from (literal_value (value_at l.values)) (l.i + 1) (drop l.i (senses_of l.meanings)) ≡ truths_from (literal_value (value_at l.values)) 1 (senses_of l.meanings)
