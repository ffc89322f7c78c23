use Rattle.std.proofs.Common.{sym, ◌∙◌, rules, FitsSigned}
use Rattle.std.specs.Int.{w128}
use Rattle.std.proofs.lemmas.Int.{to_z-of_z}
use Rattle.kat_fm.specs.EntryViews.{numbers_in}
use Rattle.kat_fm.proofs.Leaving.{covered_at}
use Rattle.kat_fm.proofs.combining.is_needless.Goals as goal

pub returns-in-Some : goal.returns-in-Some
returns-in-Some c = λ e ms.
    let fits : FitsSigned w128 c.args.constant = search rules in
    covered_at c.args.rows.now c.of.result c.in-Some.row.now (record { coefficients = numbers_in c.args.coefficients.now; constant = c.args.constant; multipliers = ms })
    (sym c.are_zero.ensures ∙ c.if-are_zero.false) c.in-Some.ensures.lookup.3.0 (c.in-Some.ensures.lookup.3.1 c.in-Some.row.now) (sym (simp to_z-of_z at c.has_most.ensures ms) ∙ e)
