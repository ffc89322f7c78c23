use Rattle.std.proofs.Common.{◌+◌, drop, get_or, sym, ◌∙◌, None, arith}
use Rattle.kat_design.specs.Faults.{tallies_effect_faults}
use Rattle.kat_design.proofs.Firsts.{left_drop, left_drop_any}
use Rattle.kat_sort_check.proofs.Firsts.{matched_found}
use Rattle.kat_sort_check.proofs.components.tallies_effects_fault.Goals as goal

pub returns-then-is_some : goal.returns-then-is_some
returns-then-is_some c =
    let effects = c.args.effects.now in
    let ops = c.args.ops.now in
    let i = c.loop-i.i in
    matched_found c.within.result (tallies_effect_faults c.args.key) effects ops i (drop i effects) (drop (i + 1) effects) (drop i ops) (drop (i + 1) ops)
    (get_or effects i None) c.index-ops-i.result c.in_ok-fault.fault c.if-effects-ops.false c.loop-i.invariant
    (left_drop_any effects i None c.loop-i-test.true) (left_drop ops i c.index-ops-i.result (omega arith) c.index-ops-i.is)
    c.in_ok-fault.ensures (sym c.is_some.ensures ∙ c.if-is_some.true) c.within.ensures
