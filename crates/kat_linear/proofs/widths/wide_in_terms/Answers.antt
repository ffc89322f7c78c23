use Rattle.std.proofs.Common.{ℕ, ℤ, pos, get_or, rules, FitsSigned, ap, ◌∙◌}
use Rattle.std.specs.Int.{w64, w128}
use Rattle.std.proofs.lemmas.Int.{to_z-of_z}
use Rattle.std.proofs.lemmas.List.{get_or_default}
use Rattle.kat_linear.specs.Rows.{coefficient, forms}
use Rattle.kat_linear.specs.Sums.{combined}
use Rattle.kat_linear.specs.Widths.{pair_at}
use Rattle.kat_linear.proofs.FirstWide.{term_ends, term_goes}
use Rattle.kat_linear.proofs.widths.wide_in_terms.Goals as goal

pub returns-in-Some : goal.returns-in-Some
returns-in-Some c =
    let m = c.args.multiplier.now in let ts = c.args.terms.now in let i = c.loop-variable.variable-index in
    let sums : ℕ → ℤ = λ v. combined (coefficient v) (forms c.args.before.now) c.args.done.now in
    let t = get_or ts i (0, pos 0) in
    let m_fits : FitsSigned w64 m = search rules in
    let s_fits : FitsSigned w128 c.narrow_column-sum.result = search rules in
    let t_fits : FitsSigned w128 t.1 = search rules in
    let e = simp to_z-of_z at c.in-Some.ensures in
    term_ends m sums ts i t _ _ c.loop-variable-test.true (get_or_default ts i (0, pos 0) t c.loop-variable-test.true) (e ∙ ap (λ s. pair_at m s t.1) c.narrow_column-sum.ensures) c.loop-variable.invariant

pub loop-variable-preserved : goal.loop-variable-preserved
loop-variable-preserved c =
    let m = c.args.multiplier.now in let ts = c.args.terms.now in let i = c.loop-variable.variable-index in
    let sums : ℕ → ℤ = λ v. combined (coefficient v) (forms c.args.before.now) c.args.done.now in
    let t = get_or ts i (0, pos 0) in
    let m_fits : FitsSigned w64 m = search rules in
    let s_fits : FitsSigned w128 c.narrow_column-sum.result = search rules in
    let t_fits : FitsSigned w128 t.1 = search rules in
    let e = simp to_z-of_z at c.in_default.ensures in
    term_goes m sums ts i t _ c.loop-variable-test.true (get_or_default ts i (0, pos 0) t c.loop-variable-test.true) (e ∙ ap (λ s. pair_at m s t.1) c.narrow_column-sum.ensures) c.loop-variable.invariant
