use Rattle.std.proofs.Common.{drop}
use Rattle.kat_histories.specs.Histories.{stamp_lists}
use Rattle.kat_histories.proofs.Finding.{Seeks}
use Rattle.kat_histories.proofs.groups.history_among.Given as goal

abbrev pub invariant-loop-group : goal.invariant-loop-group
invariant-loop-group l = Seeks l.calls (drop l.group-index stamp_lists) l.number l.left
