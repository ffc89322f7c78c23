use Rattle.std.proofs.Common.{◌≡◌, ◌<◌, All, length, map, take}
use Rattle.kat_fm.specs.Lists.{list_number}
use Rattle.kat_fm.specs.Views.{combinations}
use Rattle.kat_fm.proofs.tidying.list_numbers.Given as goal

abbrev pub invariant-loop-row : goal.invariant-loop-row
invariant-loop-row l = record {
  value : l.numbers.items ≡ map (list_number (length l.rows)) (combinations (take l.row-index l.rows));
  below : All (λ n. n < length l.rows) l.numbers.items;
}
