use Rattle.std.proofs.Common.{◌≡◌, max, drop, map}
use Rattle.kat_form.specs.Readings.{numbers_of}
use Rattle.kat_form.specs.Folds.{reading_of}
use Rattle.kat_form.proofs.numbers.+numbers.Given as goal

abbrev pub invariant-numbers_of-loop-formula : goal.invariant-numbers_of-loop-formula
invariant-numbers_of-loop-formula l = max l.most (numbers_of (map reading_of (drop l.formula-index l.formulas))) ≡ numbers_of (map reading_of l.formulas)
