use Rattle.std.proofs.Common.{◌≡◌, drop}
use Rattle.kat_fm.specs.Lists.{spread_from}
use Rattle.kat_fm.proofs.tidying.number_of.Given as goal

abbrev pub invariant-loop-place : goal.invariant-loop-place
invariant-loop-place l = spread_from l.number (drop l.place-index l.row.coefficients.entries.items) ≡ spread_from 0 l.row.coefficients.entries.items
