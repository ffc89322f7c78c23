use Rattle.std.proofs.Common.{drop}
use Rattle.kat_design.specs.Faults.{table_effect_faults}
use Rattle.kat_sort_check.proofs.Firsts.{MatchedLeft}
use Rattle.kat_sort_check.proofs.components.table_effects_fault.Given as goal

abbrev pub invariant-loop-i : goal.invariant-loop-i
invariant-loop-i l = MatchedLeft (table_effect_faults l.key l.kinds) l.effects l.ops l.i (drop l.i l.effects) (drop l.i l.ops)
