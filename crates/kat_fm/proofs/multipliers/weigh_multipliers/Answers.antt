use Rattle.std.proofs.Common.{◌^◌, drop, sym, ap, ◌∙◌, arith, rules, FitsSigned}
use Rattle.std.specs.Int.{w64}
use Rattle.std.proofs.lemmas.Int.{to_z-of_z}
use Rattle.kat_fm.proofs.Merges.{next_in, merge_goes_on, merge_stops, merge_past, merge_whole}
use Rattle.kat_fm.proofs.multipliers.weigh_multipliers.Goals as goal

pub returns-then-count-next : goal.returns-then-count-next
returns-then-count-next c =
    let ps = c.args.ps.now in let ns = c.args.ns.now in let next = c.in-Some.next in let n = c.min-count.result in
    merge_past (2 ^ 62) c.args.weights.now.plus c.args.weights.now.minus ps.count ns.count n ps.entries.items ns.entries.items _ _ _ _ c.loop-next.entries.items next.place next.plus next.minus c.loop-next.invariant.merging
    (next_in _ _ ps.entries.items ns.entries.items c.loop-next.i c.loop-next.j next.i next.j next.place next.plus next.minus c.as_slice-plus.ensures.value c.as_slice-minus.ensures.value c.in-Some.ensures.next)
    (omega arith) (grind arith) (grind arith) (grind arith)

pub returns-in-Err : goal.returns-in-Err
returns-in-Err c =
    let ps = c.args.ps.now in let ns = c.args.ns.now in let next = c.in-Some.next in let n = c.min-count.result in
    let p_fits : FitsSigned w64 next.plus = search rules in
    let n_fits : FitsSigned w64 next.minus = search rules in
    merge_stops (2 ^ 62) c.args.weights.now.plus c.args.weights.now.minus ps.count ns.count n ps.entries.items ns.entries.items _ _ _ _ c.loop-next.entries.items next.place next.plus next.minus _ _ c.loop-next.invariant.merging
    (next_in _ _ ps.entries.items ns.entries.items c.loop-next.i c.loop-next.j next.i next.j next.place next.plus next.minus c.as_slice-plus.ensures.value c.as_slice-minus.ensures.value c.in-Some.ensures.next)
    (grind arith) (grind arith) (grind arith) (omega arith) (simp to_z-of_z at c.in-Err.ensures.value)

pub loop-next-preserved : goal.loop-next-preserved
loop-next-preserved c =
    let ps = c.args.ps.now in let ns = c.args.ns.now in let next = c.in-Some.next in let n = c.min-count.result in
    let p_fits : FitsSigned w64 next.plus = search rules in
    let n_fits : FitsSigned w64 next.minus = search rules in
    let z_fits : FitsSigned w64 c.in-Ok.z = search rules in
    record {
      merging = merge_goes_on (2 ^ 62) c.args.weights.now.plus c.args.weights.now.minus n ps.entries.items ns.entries.items _ _ _ _ c.loop-next.entries.items c.put.new.entries.items next.place next.plus next.minus c.in-Ok.z c.loop-next.invariant.merging
          (next_in _ _ ps.entries.items ns.entries.items c.loop-next.i c.loop-next.j next.i next.j next.place next.plus next.minus c.as_slice-plus.ensures.value c.as_slice-minus.ensures.value c.in-Some.ensures.next)
          (omega arith) (simp to_z-of_z at c.in-Ok.ensures.value) c.in-Ok.ensures.small (simp to_z-of_z at c.in_ok-put-in-Ok.ensures);
      i = grind arith;
      j = grind arith;
    }

pub returns : goal.returns
returns c =
    let ps = c.args.ps.now in let ns = c.args.ns.now in let n = c.min-count.result in
    merge_whole (2 ^ 62) c.args.weights.now.plus c.args.weights.now.minus ps.count ns.count n ps.entries.items ns.entries.items _ _ c.loop-next.entries.items c.loop-next.invariant.merging
    (ap (drop c.loop-next.i) (sym c.as_slice-plus.ensures.value) ∙ c.in_default.ensures.next.0) (ap (drop c.loop-next.j) (sym c.as_slice-minus.ensures.value) ∙ c.in_default.ensures.next.1)
    (grind arith) (grind arith) (grind arith)
