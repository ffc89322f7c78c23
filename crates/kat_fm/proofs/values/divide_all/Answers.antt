use Rattle.std.proofs.Common.{pos, get_or, arith, rules, FitsSigned}
use Rattle.std.specs.Prelude.{int_div}
use Rattle.std.specs.Int.{w128}
use Rattle.std.proofs.lemmas.Int.{to_z-of_z}
use Rattle.kat_fm.proofs.Comparing.{mapped_more}
use Rattle.kat_fm.proofs.values.divide_all.Goals as goal

pub loop-n-preserved : goal.loop-n-preserved
loop-n-preserved c =
    let n_fits : FitsSigned w128 (get_or c.loop-n.n-items c.loop-n.n-index (pos 0)) = search rules in
    let q_fits : FitsSigned w128 c.quotient.result = search rules in
    let is = simp to_z-of_z at c.quotient.ensures in
    simp to_z-of_z (mapped_more (λ n. int_div n (pos c.args.g)) c.args.nums.now.items c.loop-n.n-items c.loop-n.n-index c.quotient.result (omega arith) c.loop-n.invariant is)
