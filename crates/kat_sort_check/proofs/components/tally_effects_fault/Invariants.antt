use Rattle.std.proofs.Common.{drop}
use Rattle.kat_design.specs.Faults.{tally_effect_faults}
use Rattle.kat_sort_check.proofs.Firsts.{MatchedLeft}
use Rattle.kat_sort_check.proofs.components.tally_effects_fault.Given as goal

abbrev pub invariant-loop-i : goal.invariant-loop-i
invariant-loop-i l = MatchedLeft tally_effect_faults l.effects l.ops l.i (drop l.i l.effects) (drop l.i l.ops)
