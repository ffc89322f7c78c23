use Rattle.std.proofs.Common.{◌≡◌, take}
use Rattle.kat_fm.specs.Entries.{without_zeros}
use Rattle.kat_fm.proofs.numbers.coefficients.Given as goal

abbrev pub invariant-loop-variable : goal.invariant-loop-variable
invariant-loop-variable l = l.entries.items ≡ without_zeros (take l.variable-index l.terms)
