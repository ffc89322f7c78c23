use Rattle.std.proofs.Common.{◌≡◌, length, take}
use Rattle.kat_fm.specs.Views.{combinations, AreCounts}
use Rattle.kat_fm.proofs.choosing.counts_of.Given as goal

abbrev pub invariant-loop-row : goal.invariant-loop-row
invariant-loop-row l = record {
  count : length l.all.items ≡ l.fn.vars;
  counts : AreCounts (take l.row-index (combinations l.rows)) l.all.items;
}
