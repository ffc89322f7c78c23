use Rattle.std.proofs.Common.{◌≡◌, map, drop}
use Rattle.kat_form.specs.Readings.{both, either, value_of_all, value_of_any}
use Rattle.kat_form.specs.Folds.{reading_of}
use Rattle.kat_form.proofs.fold.+fold.Given as goal

abbrev pub invariant-value_of_all-loop-part : goal.invariant-value_of_all-loop-part
invariant-value_of_all-loop-part l = both l.value (value_of_all (map reading_of (drop l.part-index l.parts))) ≡ value_of_all (map reading_of l.parts)

abbrev pub invariant-value_of_any-loop-part : goal.invariant-value_of_any-loop-part
invariant-value_of_any-loop-part l = either l.value (value_of_any (map reading_of (drop l.part-index l.parts))) ≡ value_of_any (map reading_of l.parts)
