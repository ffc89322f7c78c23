use Rattle.std.proofs.Common.{◌≡◌, ◌^◌, pos, drop}
use Rattle.kat_fm.proofs.EntrySums.{entries_dot}
use Rattle.kat_fm.proofs.numbers.dot.Given as goal

abbrev pub invariant-loop-place : goal.invariant-loop-place
invariant-loop-place l = entries_dot (2 ^ 126) l.total (drop l.place-index l.place-items) l.ns ≡ entries_dot (2 ^ 126) (pos 0) l.cs.entries.items l.ns
