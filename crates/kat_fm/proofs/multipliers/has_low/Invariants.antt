use Rattle.std.proofs.Common.{◌^◌, drop}
use Rattle.kat_fm.specs.Entries.{AreWithin}
use Rattle.kat_fm.proofs.multipliers.has_low.Given as goal

abbrev pub invariant-loop-multiplier : goal.invariant-loop-multiplier
invariant-loop-multiplier l = AreWithin (2 ^ 30) (drop l.multiplier-index l.entries) → AreWithin (2 ^ 30) l.entries
