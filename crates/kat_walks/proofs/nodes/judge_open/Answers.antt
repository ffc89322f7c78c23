use Rattle.std.proofs.Common.{◌≡◌, ◌≤◌, ◌^◌, ℤ, List, All, length, unsigned_abs, ap, sym, subst, ◌∙◌, arith, rules, FitsSigned}
use Rattle.std.specs.Int.{w128}
use Rattle.std.proofs.lemmas.Int.{to_z-of_z}
use Rattle.std.proofs.lemmas.List.{length-map}
use Rattle.kat_linear.specs.Rows.{Form, IsAscending, IsSmall, forms}
use Rattle.kat_linear.specs.Widths.{widths}
use Rattle.kat_clause.specs.Literals.{has_of}
use Rattle.kat_form.specs.declared.Meaning.{Meaning}
use Rattle.kat_form.specs.Encodings.{encoding, sense_of, senses_of}
use Rattle.kat_fm.specs.Eliminations.Solution.{met_at, refuted_by, crowded, goes_wide}
use Rattle.kat_fm.specs.Answers.{solution_of, HasVariablesBelow}
use Rattle.kat_fm.proofs.Certificates.{multipliers_refute}
use Rattle.kat_walks.specs.Walks.{bounds_from, by_widths, literals_in, rows_in}
use Rattle.kat_walks.specs.Walks.Judgement.{stops}
use Rattle.kat_walks.specs.Walks.End.{too_many, too_wide}
use Rattle.kat_walks.proofs.NodeJudgings.{held_small, literals-length, ok_along, rows_ascending, rows_below, rows_small, solved_as}
use Rattle.kat_walks.proofs.nodes.judge_open.Goals as goal

pub solve-requires : goal.solve-requires
solve-requires c =
    let e = encoding c.args.encoded.now in
    let n = c.args.encoded.now.numbers in
    let has = has_of c.args.marks.now in
    let rows_are : forms c.in_ok-held.held.rows.items ≡ rows_in (bounds_from (has_of c.args.marks.now) 1 (encoding c.args.encoded.now).senses) =
    c.in_ok-held.ensures.rows ∙ ap (λ (ms : List Meaning). rows_in (bounds_from (has_of c.args.marks.now) 1 (senses_of ms))) c.deref.ensures.value in
    let lits_are : c.in_ok-held.held.literals.items ≡ literals_in (bounds_from (has_of c.args.marks.now) 1 (encoding c.args.encoded.now).senses) =
    c.in_ok-held.ensures.literals ∙ ap (λ (ms : List Meaning). literals_in (bounds_from (has_of c.args.marks.now) 1 (senses_of ms))) c.deref.ensures.value in
    let is : forms c.deref-2.result.now ≡ rows_in (bounds_from (has_of c.args.marks.now) 1 (encoding c.args.encoded.now).senses) = ap forms c.deref-2.ensures.value ∙ rows_are in
    let A : List Form → Type 0 = All IsAscending in
    let B : List Form → Type 0 = All IsSmall in
    let C : List Form → Type 0 = All (HasVariablesBelow c.args.encoded.now.numbers) in
    record {
      ascending = subst A (sym is) (rows_ascending n e has c.requires.walkable);
      small = subst B (sym is) (rows_small n e has c.requires.walkable);
      below = subst C (sym is) (rows_below n e has c.requires.walkable);
    }

pub judge_line-requires : goal.judge_line-requires
judge_line-requires c =
    let e = encoding c.args.encoded.now in
    let n = c.args.encoded.now.numbers in
    let has = has_of c.args.marks.now in
    let rows_are : forms c.in_ok-held.held.rows.items ≡ rows_in (bounds_from (has_of c.args.marks.now) 1 (encoding c.args.encoded.now).senses) =
    c.in_ok-held.ensures.rows ∙ ap (λ (ms : List Meaning). rows_in (bounds_from (has_of c.args.marks.now) 1 (senses_of ms))) c.deref.ensures.value in
    let lits_are : c.in_ok-held.held.literals.items ≡ literals_in (bounds_from (has_of c.args.marks.now) 1 (encoding c.args.encoded.now).senses) =
    c.in_ok-held.ensures.literals ∙ ap (λ (ms : List Meaning). literals_in (bounds_from (has_of c.args.marks.now) 1 (senses_of ms))) c.deref.ensures.value in
    let is : forms c.deref-2.result.now ≡ rows_in (bounds_from (has_of c.args.marks.now) 1 (encoding c.args.encoded.now).senses) = ap forms c.deref-2.ensures.value ∙ rows_are in
    let bounds = bounds_from (has_of c.args.marks.now) 1 (encoding c.args.encoded.now).senses in
    let C : List Form → Type 0 = All (HasVariablesBelow c.args.encoded.now.numbers) in
    let A : List Form → Type 0 = All IsAscending in
    let S : List ℤ → Type 0 = All (λ k. unsigned_abs k ≤ 2 ^ 28) in
    let r = multipliers_refute (forms c.deref-2.result.now) n c.in-Multipliers.multipliers.items (subst C (sym is) (rows_below n e has c.requires.walkable)) (sym c.in_ok-solve.ensures ∙ ap solution_of c.in-Multipliers.is) in
    let count : length c.deref-in-Multipliers.result.now ≡ length (forms c.in_ok-held.held.rows.items) = ap length c.deref-in-Multipliers.ensures.value ∙ r.count ∙ ap (λ (x : List Form). length x) (is ∙ sym rows_are) in
    let same : length c.in_ok-held.held.literals.items ≡ length (forms c.in_ok-held.held.rows.items) = ap length lits_are ∙ literals-length bounds ∙ sym (ap (λ (x : List Form). length x) rows_are) in
    record {
      sizes = same ∙ sym count;
      rows = sym count;
      ascending = subst A (sym rows_are) (rows_ascending n e has c.requires.walkable);
      small = subst S (sym lits_are) (held_small e has (omega (arith, c.requires.variables, length-map c.args.encoded.now.meanings.items sense_of)));
    }

pub returns-in-Point : goal.returns-in-Point
returns-in-Point c =
    let e = encoding c.args.encoded.now in
    let n = c.args.encoded.now.numbers in
    let has = has_of c.args.marks.now in
    let rows_are : forms c.in_ok-held.held.rows.items ≡ rows_in (bounds_from (has_of c.args.marks.now) 1 (encoding c.args.encoded.now).senses) =
    c.in_ok-held.ensures.rows ∙ ap (λ (ms : List Meaning). rows_in (bounds_from (has_of c.args.marks.now) 1 (senses_of ms))) c.deref.ensures.value in
    let lits_are : c.in_ok-held.held.literals.items ≡ literals_in (bounds_from (has_of c.args.marks.now) 1 (encoding c.args.encoded.now).senses) =
    c.in_ok-held.ensures.literals ∙ ap (λ (ms : List Meaning). literals_in (bounds_from (has_of c.args.marks.now) 1 (senses_of ms))) c.deref.ensures.value in
    let is : forms c.deref-2.result.now ≡ rows_in (bounds_from (has_of c.args.marks.now) 1 (encoding c.args.encoded.now).senses) = ap forms c.deref-2.ensures.value ∙ rows_are in
    c.judge_point.ensures ∙ sym (solved_as e n has (forms c.deref-2.result.now) (met_at c.in-Point.den c.in-Point.nums.items) is (sym c.in_ok-solve.ensures ∙ ap solution_of c.in-Point.is))

pub returns-in-Multipliers : goal.returns-in-Multipliers
returns-in-Multipliers c =
    let e = encoding c.args.encoded.now in
    let n = c.args.encoded.now.numbers in
    let has = has_of c.args.marks.now in
    let rows_are : forms c.in_ok-held.held.rows.items ≡ rows_in (bounds_from (has_of c.args.marks.now) 1 (encoding c.args.encoded.now).senses) =
    c.in_ok-held.ensures.rows ∙ ap (λ (ms : List Meaning). rows_in (bounds_from (has_of c.args.marks.now) 1 (senses_of ms))) c.deref.ensures.value in
    let lits_are : c.in_ok-held.held.literals.items ≡ literals_in (bounds_from (has_of c.args.marks.now) 1 (encoding c.args.encoded.now).senses) =
    c.in_ok-held.ensures.literals ∙ ap (λ (ms : List Meaning). literals_in (bounds_from (has_of c.args.marks.now) 1 (senses_of ms))) c.deref.ensures.value in
    let is : forms c.deref-2.result.now ≡ rows_in (bounds_from (has_of c.args.marks.now) 1 (encoding c.args.encoded.now).senses) = ap forms c.deref-2.ensures.value ∙ rows_are in
    let ms = c.in-Multipliers.multipliers.items in
    let bounds = bounds_from (has_of c.args.marks.now) 1 (encoding c.args.encoded.now).senses in
    ok_along c.judge_line.result
    (by_widths c.in_ok-held.held.literals.items c.deref-in-Multipliers.result.now (widths (forms c.in_ok-held.held.rows.items) c.deref-in-Multipliers.result.now)) _
    (ap (λ (x : List ℤ). by_widths c.in_ok-held.held.literals.items x (widths (forms c.in_ok-held.held.rows.items) x)) c.deref-in-Multipliers.ensures.value
    ∙ ap (λ (x : List Form). by_widths c.in_ok-held.held.literals.items ms (widths x ms)) rows_are
    ∙ ap (λ (x : List ℤ). by_widths x ms (widths (rows_in bounds) ms)) lits_are
    ∙ sym (solved_as e n has (forms c.deref-2.result.now) (refuted_by ms) is (sym c.in_ok-solve.ensures ∙ ap solution_of c.in-Multipliers.is)))
    c.judge_line.ensures

pub returns-in-Rows : goal.returns-in-Rows
returns-in-Rows c =
    let e = encoding c.args.encoded.now in
    let n = c.args.encoded.now.numbers in
    let has = has_of c.args.marks.now in
    let rows_are : forms c.in_ok-held.held.rows.items ≡ rows_in (bounds_from (has_of c.args.marks.now) 1 (encoding c.args.encoded.now).senses) =
    c.in_ok-held.ensures.rows ∙ ap (λ (ms : List Meaning). rows_in (bounds_from (has_of c.args.marks.now) 1 (senses_of ms))) c.deref.ensures.value in
    let lits_are : c.in_ok-held.held.literals.items ≡ literals_in (bounds_from (has_of c.args.marks.now) 1 (encoding c.args.encoded.now).senses) =
    c.in_ok-held.ensures.literals ∙ ap (λ (ms : List Meaning). literals_in (bounds_from (has_of c.args.marks.now) 1 (senses_of ms))) c.deref.ensures.value in
    let is : forms c.deref-2.result.now ≡ rows_in (bounds_from (has_of c.args.marks.now) 1 (encoding c.args.encoded.now).senses) = ap forms c.deref-2.ensures.value ∙ rows_are in
    ap (λ (l : List ℤ). stops (too_many l c.in-Rows.plus c.in-Rows.minus c.in-Rows.rest)) lits_are
    ∙ sym (solved_as e n has (forms c.deref-2.result.now) (crowded c.in-Rows.plus c.in-Rows.minus c.in-Rows.rest) is (sym c.in_ok-solve.ensures ∙ ap solution_of c.in-Rows.is))

pub returns-in-Wide : goal.returns-in-Wide
returns-in-Wide c =
    let e = encoding c.args.encoded.now in
    let n = c.args.encoded.now.numbers in
    let has = has_of c.args.marks.now in
    let rows_are : forms c.in_ok-held.held.rows.items ≡ rows_in (bounds_from (has_of c.args.marks.now) 1 (encoding c.args.encoded.now).senses) =
    c.in_ok-held.ensures.rows ∙ ap (λ (ms : List Meaning). rows_in (bounds_from (has_of c.args.marks.now) 1 (senses_of ms))) c.deref.ensures.value in
    let lits_are : c.in_ok-held.held.literals.items ≡ literals_in (bounds_from (has_of c.args.marks.now) 1 (encoding c.args.encoded.now).senses) =
    c.in_ok-held.ensures.literals ∙ ap (λ (ms : List Meaning). literals_in (bounds_from (has_of c.args.marks.now) 1 (senses_of ms))) c.deref.ensures.value in
    let is : forms c.deref-2.result.now ≡ rows_in (bounds_from (has_of c.args.marks.now) 1 (encoding c.args.encoded.now).senses) = ap forms c.deref-2.ensures.value ∙ rows_are in
    let fits_l : FitsSigned w128 c.in-Wide.left = search rules in
    let fits_r : FitsSigned w128 c.in-Wide.right = search rules in
    rw (to_z-of_z w128 c.in-Wide.left fits_l, to_z-of_z w128 c.in-Wide.right fits_r)
    (ap (λ (l : List ℤ). stops (too_wide l c.in-Wide.left c.in-Wide.right)) lits_are
    ∙ sym (solved_as e n has (forms c.deref-2.result.now) (goes_wide c.in-Wide.left c.in-Wide.right) is (sym c.in_ok-solve.ensures ∙ ap solution_of c.in-Wide.is)))
