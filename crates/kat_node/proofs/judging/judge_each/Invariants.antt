use Rattle.std.proofs.Common.{None, drop}
use Rattle.kat_node.specs.Possible.{element_faults, with_last}
use Rattle.kat_node.proofs.Judged.{JudgedSoFar}
use Rattle.kat_node.proofs.judging.judge_each.Given as goal

abbrev pub invariant-loop-i : goal.invariant-loop-i
invariant-loop-i g l = JudgedSoFar (element_faults g.R.Rule.ascend g.R.Rule.key (g.R.Rule.faults l.rule)) 0 (with_last g.R.Rule.key None l.elements) l.i (with_last g.R.Rule.key l.last (drop l.i l.elements))
