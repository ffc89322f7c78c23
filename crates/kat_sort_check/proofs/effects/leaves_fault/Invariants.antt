use Rattle.std.proofs.Common.{drop}
use Rattle.kat_design.specs.Faults.{leaf_faults}
use Rattle.kat_sort_check.proofs.Firsts.{MatchedLeft}
use Rattle.kat_sort_check.proofs.effects.leaves_fault.Given as goal

abbrev pub invariant-loop-i : goal.invariant-loop-i
invariant-loop-i l = MatchedLeft (leaf_faults l.sorts) l.leaves l.kinds l.i (drop l.i l.leaves) (drop l.i l.kinds)
