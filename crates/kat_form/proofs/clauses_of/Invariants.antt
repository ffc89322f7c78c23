use Rattle.std.proofs.Common.{◌≡◌, drop, map}
use Rattle.kat_form.specs.Readings.{state_each}
use Rattle.kat_form.specs.Readings.{encoded_readings}
use Rattle.kat_form.specs.Folds.{reading_of}
use Rattle.kat_form.proofs.clauses_of.Given as goal

abbrev pub invariant-loop-fact : goal.invariant-loop-fact
invariant-loop-fact l = state_each (map reading_of (drop l.fact-index l.facts)) l.draft ≡ encoded_readings (map reading_of l.facts)
