use Rattle.std.proofs.Common.{◌≤◌, ◌^◌, ℤ, unsigned_abs, sym, ◌∙◌, subst, rules, FitsSigned}
use Rattle.std.specs.Int.{w128}
use Rattle.std.proofs.lemmas.Int.{to_z-of_z}
use Rattle.kat_fm.proofs.EntryPlaces.{coefficient_small}
use Rattle.kat_fm.proofs.Spreads.{number_at}
use Rattle.kat_fm.proofs.working.Combination.at.Goals as goal

pub returns-clause-value : goal.returns-clause-value
returns-clause-value c =
    let cs = c.args.self.now.coefficients in
    let fits : FitsSigned w128 c.at.result = search rules in
    to_z-of_z _ _ fits ∙ c.at.ensures ∙ sym (number_at cs.count cs.entries.items c.args.variable cs.below)

pub returns-clause-small : goal.returns-clause-small
returns-clause-small c =
    let row = c.args.self.now in
    let fits : FitsSigned w128 c.at.result = search rules in
    let P : ℤ → Type 0 = λ z. unsigned_abs z ≤ 2 ^ 126 in
    subst P (sym (to_z-of_z _ _ fits ∙ c.at.ensures)) (coefficient_small row.coefficients.entries.items c.args.variable (2 ^ 126) row.coefficients.ascending row.small)
