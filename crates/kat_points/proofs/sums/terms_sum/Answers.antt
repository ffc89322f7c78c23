use Rattle.std.proofs.Common.{rules, FitsSigned, get_or, to_z, of_z, pos}
use Rattle.std.specs.Int.{w128}
use Rattle.std.proofs.lemmas.Int.{to_z-of_z}
use Rattle.kat_linear.specs.Rows.{term_sum}
use Rattle.kat_points.specs.Points.{goes_past, number_at, term_factors}
use Rattle.kat_points.proofs.PointSums.{sum_more}
use Rattle.kat_points.proofs.sums.terms_sum.Goals as goal

pub loop-term-preserved : goal.loop-term-preserved
loop-term-preserved c =
    let t = get_or c.args.terms.now c.loop-term.term-index (0, pos 0) in
    let fits : FitsSigned w128 c.in-Some.next = search rules in
    let t_fits : FitsSigned w128 t.1 = search rules in
    let n_fits : FitsSigned w128 c.number.result = search rules in
    let narrow = simp to_z-of_z at c.in-Some.ensures.0 in
    let is = simp to_z-of_z at c.in-Some.ensures.1 in
    let more = sum_more c.args.nums.now c.args.terms.now c.loop-term.term-index (0, pos 0) (to_z w128 c.loop-term.total-bits) c.number.result c.in-Some.next (to_z w128 (of_z w128 c.in-Some.next))
    (goes_past (pos 0) (term_factors c.args.nums.now c.args.terms.now)) (term_sum (number_at c.args.nums.now) c.args.terms.now)
    c.loop-term-test.true (to_z-of_z w128 c.in-Some.next fits) c.number.ensures narrow is c.loop-term.invariant.past c.loop-term.invariant.sum in
    record { past = more.0; sum = more.1 }
