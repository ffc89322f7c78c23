use Rattle.std.proofs.Common.{◌≡◌, drop}
use Rattle.kat_form.specs.Encodings.{senses_of}
use Rattle.kat_form.specs.Facts.{facts_of, listed}
use Rattle.kat_form.specs.Laws.{read_by}
use Rattle.kat_form.specs.Meanings.{all_true, any_true, values_of}
use Rattle.kat_points.specs.Points.{value_at}
use Rattle.kat_points.proofs.saying.+saying.Given as goal

abbrev pub invariant-all_say-loop-part : goal.invariant-all_say-loop-part
invariant-all_say-loop-part l =
    all_true (values_of (read_by (value_at l.values) (senses_of l.meanings)) (listed (facts_of (drop l.part-index l.parts))))
    ≡ all_true (values_of (read_by (value_at l.values) (senses_of l.meanings)) (listed (facts_of l.parts)))

abbrev pub invariant-one_says-loop-part : goal.invariant-one_says-loop-part
invariant-one_says-loop-part l =
    any_true (values_of (read_by (value_at l.values) (senses_of l.meanings)) (listed (facts_of (drop l.part-index l.parts))))
    ≡ any_true (values_of (read_by (value_at l.values) (senses_of l.meanings)) (listed (facts_of l.parts)))
