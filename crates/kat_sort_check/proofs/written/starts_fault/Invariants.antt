use Rattle.std.proofs.Common.{drop}
use Rattle.kat_design.specs.Faults.{start_faults}
use Rattle.kat_sort_check.proofs.Firsts.{MatchedLeft}
use Rattle.kat_sort_check.proofs.written.starts_fault.Given as goal

abbrev pub invariant-loop-i : goal.invariant-loop-i
invariant-loop-i l = MatchedLeft start_faults l.starts l.kinds l.i (drop l.i l.starts) (drop l.i l.kinds)
