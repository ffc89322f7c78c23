use Rattle.std.proofs.Common.{◌≡◌, length, take}
use Rattle.kat_fm.proofs.Counting.{AddsEntries}
use Rattle.kat_fm.proofs.choosing.add_row.Given as goal

abbrev pub invariant-loop-variable : goal.invariant-loop-variable
invariant-loop-variable l = record {
  count : length l.all.items ≡ length l.fn.all.items;
  added : AddsEntries (take l.variable-index l.variable-items) l.fn.all.items l.all.items;
}
