use Rattle.std.proofs.Common.{◌≡◌, ◌++◌, length, drop}
use Rattle.kat_linear.specs.Rows.{forms}
use Rattle.kat_fm.specs.Combinations.{given_from, given}
use Rattle.kat_fm.specs.Views.{combinations}
use Rattle.kat_fm.proofs.combining.given_rows.Given as goal

abbrev pub invariant-loop-place : goal.invariant-loop-place
invariant-loop-place l = combinations l.all.items ++ given_from l.vars (length l.rows) l.place (drop l.place (forms l.rows)) ≡ given l.vars (forms l.rows)
