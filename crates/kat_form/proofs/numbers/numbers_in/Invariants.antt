use Rattle.std.proofs.Common.{◌≡◌, max, drop}
use Rattle.kat_form.specs.Readings.{numbers_in}
use Rattle.kat_form.proofs.numbers.numbers_in.Given as goal

abbrev pub invariant-loop-variable : goal.invariant-loop-variable
invariant-loop-variable l = max l.most (numbers_in (drop l.variable-index l.terms)) ≡ numbers_in l.terms
