use Rattle.std.proofs.Common.{◌≡◌, ◌≤◌, ◌^◌, List, All, unsigned_abs, sym, ap, ◌∙◌, subst, arith}
use Rattle.std.specs.Prelude.{not}
use Rattle.std.proofs.lemmas.List.{take_all}
use Rattle.std.proofs.lemmas.List.Elements.{All-filter}
use Rattle.kat_linear.specs.Rows.{Term}
use Rattle.kat_fm.specs.Comparisons.{is_zero}
use Rattle.kat_fm.specs.Entries.{AreEntries, numbers_at, without_zeros}
use Rattle.kat_fm.proofs.GivenEntries.{without_entries, without_numbers}
use Rattle.kat_fm.proofs.numbers.coefficients.Goals as goal

pub invariant_of-result : goal.invariant_of-result
invariant_of-result c =
    let ts = c.args.terms.now in let n = c.args.count in
    let is : c.loop-variable.entries.items ≡ without_zeros ts = c.loop-variable.invariant ∙ ap without_zeros (take_all c.loop-variable.variable-index ts (omega arith)) in
    let P : List Term → Type 0 = AreEntries n in
    let has = subst P (sym is) (without_entries n ts c.requires.ascending c.requires.below) in
    record { ascending = has.ascending; below = has.below; not_zero = has.not_zero }

pub returns-clause-value : goal.returns-clause-value
returns-clause-value c =
    let ts = c.args.terms.now in
    let is : c.loop-variable.entries.items ≡ without_zeros ts = c.loop-variable.invariant ∙ ap without_zeros (take_all c.loop-variable.variable-index ts (omega arith)) in
    ap (numbers_at c.args.count) is ∙ without_numbers c.args.count ts

pub returns-clause-small : goal.returns-clause-small
returns-clause-small c =
    let ts = c.args.terms.now in
    let is : c.loop-variable.entries.items ≡ without_zeros ts = c.loop-variable.invariant ∙ ap without_zeros (take_all c.loop-variable.variable-index ts (omega arith)) in
    let P : List Term → Type 0 = λ es. All (λ (e : Term). unsigned_abs e.1 ≤ 2 ^ 126) es in
    subst P (sym is) (All-filter (λ (e : Term). not (is_zero e.1)) (λ (e : Term). unsigned_abs e.1 ≤ 2 ^ 126) ts c.requires.small)
