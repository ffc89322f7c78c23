use Rattle.std.proofs.Common.{drop}
use Rattle.kat_form.specs.Facts.{AreSized}
use Rattle.kat_form.specs.Folds.{rows_of_all}
use Rattle.kat_form.proofs.sizes.+sizes.Given as goal

abbrev pub invariant-have_sized_rows-loop-formula : goal.invariant-have_sized_rows-loop-formula
invariant-have_sized_rows-loop-formula l = AreSized (rows_of_all (drop l.formula-index l.formulas)) → AreSized (rows_of_all l.formulas)
