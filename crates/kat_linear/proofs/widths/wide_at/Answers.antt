use Rattle.std.proofs.Common.{◌*ℤ◌, ap, ◌∙◌, arith, rules, FitsSigned}
use Rattle.std.specs.Int.{w128}
use Rattle.std.proofs.lemmas.Int.{to_z-of_z, ints}
use Rattle.kat_linear.proofs.FirstWide.{pair_at_sum}
use Rattle.kat_linear.proofs.widths.wide_at.Goals as goal

pub returns-in-None : goal.returns-in-None
returns-in-None c =
    let s_fits : FitsSigned w128 c.args.sum = c.ranges.sum in
    let n_fits : FitsSigned w128 c.args.number = c.ranges.number in
    let m_fits : FitsSigned w128 c.from.result = search rules in
    let p_fits : FitsSigned w128 c.in-Some.product = search rules in
    let is = simp to_z-of_z at c.in-Some.ensures.0 in
    let wide = simp to_z-of_z at c.in-None.ensures in
    simp to_z-of_z (pair_at_sum c.args.multiplier c.args.sum c.args.number c.in-Some.product (is ∙ ap (λ x. x *ℤ c.args.number) (omega (arith, ints, c.from.ensures))) c.in-Some.ensures.1 wide)
