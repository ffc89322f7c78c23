use Rattle.std.proofs.Common.{◌≡◌, ◌≤◌, ◌^◌, ℤ, List, All, length, unsigned_abs, ap, sym, subst, ◌∙◌, arith, rules, FitsSigned}
use Rattle.std.specs.Int.{w128}
use Rattle.std.proofs.lemmas.Int.{to_z-of_z}
use Rattle.std.proofs.lemmas.List.{length-map}
use Rattle.kat_linear.specs.Rows.{Form, IsAscending, IsSmall, forms}
use Rattle.kat_linear.specs.Widths.{widths}
use Rattle.kat_clause.specs.Literals.{has_of}
use Rattle.kat_form.specs.declared.Meaning.{Meaning}
use Rattle.kat_form.specs.Encodings.{senses_of, sense_of}
use Rattle.kat_fm.specs.Eliminations.Solution.{met_at, refuted_by, crowded, goes_wide}
use Rattle.kat_fm.specs.Answers.{solution_of, HasVariablesBelow}
use Rattle.kat_fm.proofs.Certificates.{multipliers_refute}
use Rattle.kat_cases.specs.Nodes.{rows, literals, held_in, held_from, judged_width}
use Rattle.kat_cases.specs.Nodes.Judgement.{ends}
use Rattle.kat_cases.specs.Nodes.End.{at_rows, at_wide}
use Rattle.kat_cases.specs.Settings.{setting_of}
use Rattle.kat_cases.proofs.Leaves.{literals-length}
use Rattle.kat_cases.proofs.Judgings.{rows_ascending, rows_small, rows_below, held_small, ok_along, solved_as, gives_point}
use Rattle.kat_cases.proofs.judging.judge_anew.Goals as goal

pub solve-requires : goal.solve-requires
solve-requires c =
    let s = setting_of c.args.encoded.now in
    let n = c.args.encoded.now.numbers in
    let has = has_of c.args.marks.now in
    let is : forms c.deref-2.result.now ≡ rows (held_in (setting_of c.args.encoded.now) (has_of c.args.marks.now)) =
    ap forms c.deref-2.ensures.value ∙ c.in_ok-held.ensures.rows ∙ ap (λ (ms : List Meaning). rows (held_from (has_of c.args.marks.now) 1 (senses_of ms))) c.deref.ensures.value in
    let A : List Form → Type 0 = All IsAscending in
    let B : List Form → Type 0 = All IsSmall in
    let C : List Form → Type 0 = All (HasVariablesBelow c.args.encoded.now.numbers) in
    record {
      ascending = subst A (sym is) (rows_ascending n s has c.requires.walkable);
      small = subst B (sym is) (rows_small n s has c.requires.walkable);
      below = subst C (sym is) (rows_below n s has c.requires.walkable);
    }

pub judge_line-requires : goal.judge_line-requires
judge_line-requires c =
    let s = setting_of c.args.encoded.now in
    let n = c.args.encoded.now.numbers in
    let has = has_of c.args.marks.now in
    let held = held_in (setting_of c.args.encoded.now) (has_of c.args.marks.now) in
    let rows_is : forms c.in_ok-held.held.rows.items ≡ rows (held_in (setting_of c.args.encoded.now) (has_of c.args.marks.now)) =
    c.in_ok-held.ensures.rows ∙ ap (λ (ms : List Meaning). rows (held_from (has_of c.args.marks.now) 1 (senses_of ms))) c.deref.ensures.value in
    let lits_is : c.in_ok-held.held.literals.items ≡ literals (held_in (setting_of c.args.encoded.now) (has_of c.args.marks.now)) =
    c.in_ok-held.ensures.literals ∙ ap (λ (ms : List Meaning). literals (held_from (has_of c.args.marks.now) 1 (senses_of ms))) c.deref.ensures.value in
    let is : forms c.deref-2.result.now ≡ rows (held_in (setting_of c.args.encoded.now) (has_of c.args.marks.now)) = ap forms c.deref-2.ensures.value ∙ rows_is in
    let C : List Form → Type 0 = All (HasVariablesBelow c.args.encoded.now.numbers) in
    let A : List Form → Type 0 = All IsAscending in
    let S : List ℤ → Type 0 = All (λ k. unsigned_abs k ≤ 2 ^ 28) in
    let r = multipliers_refute (forms c.deref-2.result.now) n c.in-Multipliers.multipliers.items (subst C (sym is) (rows_below n s has c.requires.walkable)) (sym c.in_ok-den.ensures ∙ ap solution_of c.in-Multipliers.is) in
    let count : length c.deref-in-Multipliers.result.now ≡ length (forms c.in_ok-held.held.rows.items) = ap length c.deref-in-Multipliers.ensures.value ∙ r.count ∙ ap (λ (x : List Form). length x) (is ∙ sym rows_is) in
    let same : length c.in_ok-held.held.literals.items ≡ length (forms c.in_ok-held.held.rows.items) = ap length lits_is ∙ literals-length held ∙ sym (ap (λ (x : List Form). length x) rows_is) in
    record {
      sizes = same ∙ sym count;
      rows = sym count;
      ascending = subst A (sym rows_is) (rows_ascending n s has c.requires.walkable);
      small = subst S (sym lits_is) (held_small s has (omega (arith, c.requires.variables, length-map c.args.encoded.now.meanings.items sense_of)));
    }

pub returns-in_ok-judged-in-Point-clause-judged : goal.returns-in_ok-judged-in-Point-clause-judged
returns-in_ok-judged-in-Point-clause-judged c =
    let s = setting_of c.args.encoded.now in
    let has = has_of c.args.marks.now in
    let is : forms c.deref-2.result.now ≡ rows (held_in (setting_of c.args.encoded.now) (has_of c.args.marks.now)) =
    ap forms c.deref-2.ensures.value ∙ c.in_ok-held.ensures.rows ∙ ap (λ (ms : List Meaning). rows (held_from (has_of c.args.marks.now) 1 (senses_of ms))) c.deref.ensures.value in
    let fits : FitsSigned w128 c.in-Point.den = search rules in
    let done = rw (to_z-of_z w128 c.in-Point.den fits) at c.in_ok-judged-in-Point.ensures in
    done ∙ sym (solved_as s has (forms c.deref-2.result.now) (met_at c.in-Point.den c.in-Point.nums.items) is (sym c.in_ok-den.ensures ∙ ap solution_of c.in-Point.is))

pub returns-in_ok-judged-in-Point-clause-recalls : goal.returns-in_ok-judged-in-Point-clause-recalls
returns-in_ok-judged-in-Point-clause-recalls c =
    let s = setting_of c.args.encoded.now in
    let has = has_of c.args.marks.now in
    let lits_is : c.in_ok-held.held.literals.items ≡ literals (held_in (setting_of c.args.encoded.now) (has_of c.args.marks.now)) =
    c.in_ok-held.ensures.literals ∙ ap (λ (ms : List Meaning). literals (held_from (has_of c.args.marks.now) 1 (senses_of ms))) c.deref.ensures.value in
    let is : forms c.deref-2.result.now ≡ rows (held_in (setting_of c.args.encoded.now) (has_of c.args.marks.now)) =
    ap forms c.deref-2.ensures.value ∙ c.in_ok-held.ensures.rows ∙ ap (λ (ms : List Meaning). rows (held_from (has_of c.args.marks.now) 1 (senses_of ms))) c.deref.ensures.value in
    let fits : FitsSigned w128 c.in-Point.den = search rules in
    simp to_z-of_z (gives_point s has c.in_ok-held.held.literals.items (forms c.deref-2.result.now) c.in-Point.den c.in-Point.nums.items lits_is is (sym c.in_ok-den.ensures ∙ ap solution_of c.in-Point.is))

pub returns-in-Multipliers-clause-judged : goal.returns-in-Multipliers-clause-judged
returns-in-Multipliers-clause-judged c =
    let s = setting_of c.args.encoded.now in
    let has = has_of c.args.marks.now in
    let ms = c.in-Multipliers.multipliers.items in
    let held = held_in (setting_of c.args.encoded.now) (has_of c.args.marks.now) in
    let rows_is : forms c.in_ok-held.held.rows.items ≡ rows (held_in (setting_of c.args.encoded.now) (has_of c.args.marks.now)) =
    c.in_ok-held.ensures.rows ∙ ap (λ (x : List Meaning). rows (held_from (has_of c.args.marks.now) 1 (senses_of x))) c.deref.ensures.value in
    let lits_is : c.in_ok-held.held.literals.items ≡ literals (held_in (setting_of c.args.encoded.now) (has_of c.args.marks.now)) =
    c.in_ok-held.ensures.literals ∙ ap (λ (x : List Meaning). literals (held_from (has_of c.args.marks.now) 1 (senses_of x))) c.deref.ensures.value in
    let is : forms c.deref-2.result.now ≡ rows (held_in (setting_of c.args.encoded.now) (has_of c.args.marks.now)) = ap forms c.deref-2.ensures.value ∙ rows_is in
    ok_along c.judge_line.result
    (judged_width c.in_ok-held.held.literals.items c.deref-in-Multipliers.result.now (widths (forms c.in_ok-held.held.rows.items) c.deref-in-Multipliers.result.now)) _
    (ap (λ (x : List ℤ). judged_width c.in_ok-held.held.literals.items x (widths (forms c.in_ok-held.held.rows.items) x)) c.deref-in-Multipliers.ensures.value
    ∙ ap (λ (x : List Form). judged_width c.in_ok-held.held.literals.items ms (widths x ms)) rows_is
    ∙ ap (λ (x : List ℤ). judged_width x ms (widths (rows held) ms)) lits_is
    ∙ sym (solved_as s has (forms c.deref-2.result.now) (refuted_by ms) is (sym c.in_ok-den.ensures ∙ ap solution_of c.in-Multipliers.is)))
    c.judge_line.ensures

pub returns-in-Rows-clause-judged : goal.returns-in-Rows-clause-judged
returns-in-Rows-clause-judged c =
    let s = setting_of c.args.encoded.now in
    let has = has_of c.args.marks.now in
    let is : forms c.deref-2.result.now ≡ rows (held_in (setting_of c.args.encoded.now) (has_of c.args.marks.now)) =
    ap forms c.deref-2.ensures.value ∙ c.in_ok-held.ensures.rows ∙ ap (λ (ms : List Meaning). rows (held_from (has_of c.args.marks.now) 1 (senses_of ms))) c.deref.ensures.value in
    let lits_is : c.in_ok-held.held.literals.items ≡ literals (held_in (setting_of c.args.encoded.now) (has_of c.args.marks.now)) =
    c.in_ok-held.ensures.literals ∙ ap (λ (ms : List Meaning). literals (held_from (has_of c.args.marks.now) 1 (senses_of ms))) c.deref.ensures.value in
    ap (λ (l : List ℤ). ends (at_rows l c.in-Rows.plus c.in-Rows.minus c.in-Rows.rest)) lits_is
    ∙ sym (solved_as s has (forms c.deref-2.result.now) (crowded c.in-Rows.plus c.in-Rows.minus c.in-Rows.rest) is (sym c.in_ok-den.ensures ∙ ap solution_of c.in-Rows.is))

pub returns-in-Wide-clause-judged : goal.returns-in-Wide-clause-judged
returns-in-Wide-clause-judged c =
    let s = setting_of c.args.encoded.now in
    let has = has_of c.args.marks.now in
    let is : forms c.deref-2.result.now ≡ rows (held_in (setting_of c.args.encoded.now) (has_of c.args.marks.now)) =
    ap forms c.deref-2.ensures.value ∙ c.in_ok-held.ensures.rows ∙ ap (λ (ms : List Meaning). rows (held_from (has_of c.args.marks.now) 1 (senses_of ms))) c.deref.ensures.value in
    let lits_is : c.in_ok-held.held.literals.items ≡ literals (held_in (setting_of c.args.encoded.now) (has_of c.args.marks.now)) =
    c.in_ok-held.ensures.literals ∙ ap (λ (ms : List Meaning). literals (held_from (has_of c.args.marks.now) 1 (senses_of ms))) c.deref.ensures.value in
    let fits_l : FitsSigned w128 c.in-Wide.left = search rules in
    let fits_r : FitsSigned w128 c.in-Wide.right = search rules in
    rw (to_z-of_z w128 c.in-Wide.left fits_l, to_z-of_z w128 c.in-Wide.right fits_r)
    (ap (λ (l : List ℤ). ends (at_wide l c.in-Wide.left c.in-Wide.right)) lits_is
    ∙ sym (solved_as s has (forms c.deref-2.result.now) (goes_wide c.in-Wide.left c.in-Wide.right) is (sym c.in_ok-den.ensures ∙ ap solution_of c.in-Wide.is)))
