use Rattle.std.proofs.Common.{◌≡◌, drop}
use Rattle.kat_fm.specs.Entries.{same_entries}
use Rattle.kat_fm.proofs.number_lists.has_same.Given as goal

abbrev pub invariant-loop-i : goal.invariant-loop-i
invariant-loop-i l = same_entries (drop l.i l.a) (drop l.i l.b) ≡ same_entries l.a l.b
