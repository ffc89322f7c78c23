use Rattle.std.proofs.Common.{◌≡◌, take}
use Rattle.kat_fm.specs.Entries.{numbers_at}
use Rattle.kat_fm.proofs.working.Multipliers.spread.Given as goal

abbrev pub invariant-loop-place : goal.invariant-loop-place
invariant-loop-place l = l.all.items ≡ numbers_at l.self.count (take l.place-index l.place-items)
