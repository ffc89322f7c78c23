use Rattle.std.proofs.Common.{◌≡◌, drop}
use Rattle.kat_linear.specs.Rows.{coefficient_in}
use Rattle.kat_fm.proofs.working.Numbers.at.Given as goal

abbrev pub invariant-loop-at : goal.invariant-loop-at
invariant-loop-at l = coefficient_in l.self.entries.items l.place ≡ coefficient_in (drop l.at-index l.self.entries.items) l.place
