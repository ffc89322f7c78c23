use Rattle.std.proofs.Common.{◌≡◌, drop}
use Rattle.kat_fm.specs.Eliminations.{contradiction}
use Rattle.kat_fm.specs.Views.{combinations}
use Rattle.kat_fm.proofs.tidying.find_contradiction.Given as goal

abbrev pub invariant-loop-row : goal.invariant-loop-row
invariant-loop-row l = contradiction (combinations (drop l.row-index l.rows)) ≡ contradiction (combinations l.rows)
