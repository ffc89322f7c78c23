use Rattle.std.proofs.Common.{◌≡◌, ◌/◌, pos, arith, rules, to_z, unsigned_abs, ap, ◌∙◌, sym, FitsSigned}
use Rattle.std.proofs.lemmas.Int.{ints, to_z-of_z, to_z_pos}
use native.Mathlib.Nat.{div-le_self}
use Rattle.std.specs.Int.{w128}
use Rattle.kat_fm.specs.Combinations.{at}
use Rattle.kat_fm.specs.EntryViews.{combination_in}
use Rattle.kat_fm.proofs.Divisors.{gcd_above}
use Rattle.kat_fm.proofs.GivenRows.{combined}
use Rattle.kat_fm.proofs.combining.combine.Goals as goal

pub nonzero_div-b : goal.nonzero_div-b
nonzero_div-b c =
    let fits : FitsSigned w128 c.at.result = search rules in
    let above = gcd_above c.unsigned_abs-a.result c.unsigned_abs-b.result (omega (arith, ints)) in
    omega arith

pub nonzero_div-a : goal.nonzero_div-a
nonzero_div-a c =
    let fits : FitsSigned w128 c.at.result = search rules in
    let above = gcd_above c.unsigned_abs-a.result c.unsigned_abs-b.result (omega (arith, ints)) in
    omega arith

pub returns : goal.returns
returns c =
    let v = c.args.variable in
    let p = combination_in c.args.plus.now in let n = combination_in c.args.minus.now in
    let a = c.unsigned_abs-a.result in let b = c.unsigned_abs-b.result in let k = c.greatest_divisor-g.result in
    let a_fits : FitsSigned w128 c.at.result = search rules in
    let b_fits : FitsSigned w128 c.at-2.result = search rules in
    let is_a : a ≡ unsigned_abs (at v p) = simp to_z-of_z at c.unsigned_abs-a.ensures.value ∙ ap unsigned_abs c.at.ensures.value in
    let is_b : b ≡ unsigned_abs (at v n) = simp to_z-of_z at c.unsigned_abs-b.ensures.value ∙ ap unsigned_abs c.at-2.ensures.value in
    let a_abs : a ≡ unsigned_abs c.at.result = simp to_z-of_z at c.unsigned_abs-a.ensures.value in
    let b_abs : b ≡ unsigned_abs c.at-2.result = simp to_z-of_z at c.unsigned_abs-b.ensures.value in
    let is_f : to_z w128 (b / k) ≡ pos (b / k) = to_z_pos w128 (b / k) (omega (arith, div-le_self b k, b_abs, c.at-2.ensures.small)) in
    let is_g : to_z w128 (a / k) ≡ pos (a / k) = to_z_pos w128 (a / k) (omega (arith, div-le_self a k, a_abs, c.at.ensures.small)) in
    let w = c.new-weights.result in
    let f_is : w.plus ≡ pos (b / k) = c.new-weights.ensures.plus ∙ is_f in
    let g_is : w.minus ≡ pos (a / k) = c.new-weights.ensures.minus ∙ is_g in
    rw (sym (combined v p n w.plus w.minus a b k is_a is_b c.greatest_divisor-g.ensures f_is g_is)) c.weigh_rows.ensures
