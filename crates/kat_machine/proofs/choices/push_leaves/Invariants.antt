use Rattle.std.proofs.Common.{◌≡◌, ◌++◌, drop}
use Rattle.kat_machine.specs.Fitting.{leaf_reads}
use Rattle.kat_machine.proofs.choices.push_leaves.Given as goal

abbrev pub invariant-loop-leaf : goal.invariant-loop-leaf
invariant-loop-leaf l = l.into.items ++ leaf_reads l.wanted l.keys l.component l.leaf (drop l.leaf l.kinds) ≡ l.fn.into.items ++ leaf_reads l.wanted l.keys l.component 0 l.kinds
