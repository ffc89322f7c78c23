use Rattle.std.proofs.Common.{◌≡◌}
use Rattle.std.specs.List.{filter}
use Rattle.kat_fm.specs.Comparisons.{has_variables}
use Rattle.kat_fm.specs.Views.{combinations}
use Rattle.kat_fm.proofs.tidying.with_variables.Given as goal

abbrev pub invariant-loop-row : goal.invariant-loop-row
invariant-loop-row l = combinations l.left.items ≡ filter has_variables (combinations l.yielded)
