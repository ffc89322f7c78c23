use Rattle.std.proofs.Common.{◌≤◌, ◌^◌, ℤ, List, All, unsigned_abs, length, subst, sym, ap, ◌∙◌, arith, rules, FitsSigned, Some}
use Rattle.std.specs.Int.{w128}
use Rattle.std.proofs.lemmas.Int.{to_z-of_z}
use Rattle.kat_linear.specs.Widths.{widths}
use Rattle.kat_refute.specs.Lines.{Line}
use Rattle.kat_refute.specs.Lines.Line.{linear}
use Rattle.kat_cases.specs.Nodes.{judged_width, used_literals, used_multipliers}
use Rattle.kat_cases.specs.Nodes.Judgement.{leaf}
use Rattle.std.proofs.lemmas.List.{length-map}
use Rattle.kat_linear.specs.declared.Row.{Row}
use Rattle.kat_linear.specs.Rows.{IsAscending, form_of, forms}
use Rattle.kat_cases.proofs.judging.judge_line.Goals as goal

pub wide_numbers-requires : goal.wide_numbers-requires
wide_numbers-requires c =
    let P : List Row → Type 0 = λ rs. All IsAscending (forms rs) in
    record {
      lengths = omega (arith, ap length c.deref.ensures.value, length-map c.args.held.rows.items form_of, c.requires.rows);
      ascending = subst P (sym c.deref.ensures.value) c.requires.ascending;
    }

pub used_line-requires : goal.used_line-requires
used_line-requires c =
    let S : List ℤ → Type 0 = All (λ k. unsigned_abs k ≤ 2 ^ 28) in
    record { sizes = ap length c.deref-in-None.ensures.value ∙ c.requires.sizes; small = subst S (sym c.deref-in-None.ensures.value) c.requires.small }

pub returns-in-Some : goal.returns-in-Some
returns-in-Some c =
    let fits_l : FitsSigned w128 c.in-Some.left = search rules in
    let fits_r : FitsSigned w128 c.in-Some.right = search rules in
    rw (to_z-of_z w128 c.in-Some.left fits_l, to_z-of_z w128 c.in-Some.right fits_r)
    (ap (judged_width c.args.held.literals.items c.args.multipliers.now) (c.in-Some.ensures ∙ ap (λ (rs : List Row). widths (forms rs) c.args.multipliers.now) c.deref.ensures.value))

pub returns-in_ok-used_line-in-None : goal.returns-in_ok-used_line-in-None
returns-in_ok-used_line-in-None c =
    let ms = c.args.multipliers.now in
    ap (λ (l : Line). leaf (Some l)) (c.in_ok-used_line-in-None.ensures ∙ ap (λ (ks : List ℤ). linear (used_literals ks c.args.multipliers.now) (used_multipliers c.args.multipliers.now)) c.deref-in-None.ensures.value)
    ∙ ap (judged_width c.args.held.literals.items c.args.multipliers.now) (c.in-None.ensures ∙ ap (λ (rs : List Row). widths (forms rs) c.args.multipliers.now) c.deref.ensures.value)
