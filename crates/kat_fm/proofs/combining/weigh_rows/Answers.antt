use Rattle.std.proofs.Common.{sym, ap, ◌∙◌, rules, FitsSigned}
use Rattle.std.specs.Int.{w128}
use Rattle.std.proofs.lemmas.Int.{to_z-of_z}
use Rattle.kat_fm.specs.Combinations.{Combination}
use Rattle.kat_fm.specs.EntryViews.{combination_in, numbers_in}
use Rattle.kat_fm.specs.Leaving.{MayMiss}
use Rattle.kat_fm.specs.Views.{combinations, spread_numbers}
use Rattle.kat_fm.proofs.Leaving.{rows_fit}
use Rattle.kat_fm.proofs.combining.weigh_rows.Goals as goal

pub returns-then-are_low : goal.returns-then-are_low
returns-then-are_low c =
    let p = c.args.p.now in let n = c.args.n.now in
    let cs = numbers_in c.in-Ok.coefficients in let k = c.in-Ok-weigh.constant in
    let p_fits : FitsSigned w128 p.constant = search rules in
    let n_fits : FitsSigned w128 n.constant = search rules in
    let k_fits : FitsSigned w128 k = search rules in
    let low = c.are_low.ensures c.if-are_low.true in
    let row : Combination = record { coefficients = cs; constant = k; multipliers = low.0 } in
    let needless : MayMiss (combinations c.args.rows.now) row = simp to_z-of_z at c.is_needless.ensures c.if-is_needless.true low.0 in (
      row,
      rows_fit c.args.weights.now.plus c.args.weights.now.minus (combination_in p) (combination_in n) cs low.0 k
          (ap spread_numbers (sym c.in-Ok.is) ∙ c.in_ok-coefficients.ensures.value) (simp to_z-of_z at c.in-Ok-weigh.ensures.value) low.1,
      needless,
    )
