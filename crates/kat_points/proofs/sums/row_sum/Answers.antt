use Rattle.std.proofs.Common.{rules, FitsSigned}
use Rattle.std.specs.Int.{w128}
use Rattle.std.proofs.lemmas.Int.{to_z-of_z}
use Rattle.kat_linear.specs.Rows.{form_of}
use Rattle.kat_points.proofs.PointSums.{row_none, row_some}
use Rattle.kat_points.proofs.sums.row_sum.Goals as goal

pub returns-in-Some : goal.returns-in-Some
returns-in-Some c =
    let s_fits : FitsSigned w128 c.in-Some.sum = search rules in
    let k_fits : FitsSigned w128 c.args.row.now.constant = search rules in
    let d_fits : FitsSigned w128 c.args.den = c.ranges.den in
    let e = simp to_z-of_z at c.with_product.ensures in
    row_some c.args.nums.now c.deref.result.now (form_of c.args.row.now) c.args.den c.in-Some.sum c.with_product.result c.requires c.deref.ensures.value c.in-Some.ensures.0 c.in-Some.ensures.1 e

pub returns-in-None : goal.returns-in-None
returns-in-None c = row_none c.args.nums.now c.deref.result.now (form_of c.args.row.now) c.args.den c.deref.ensures.value c.in-None.ensures
