use Rattle.std.proofs.Common.{◌≡◌, List, refl, ap, sym, ◌∙◌, subst}
use Rattle.std.proofs.lemmas.Bool.{false≢true}
use Rattle.kat_linear.specs.Rows.{Form, form_of}
use Rattle.kat_form.specs.Facts.{AreSized}
use Rattle.kat_form.specs.Folds.{rows_of, rows_of_all}
use Rattle.kat_form.proofs.Parts.{sized_alone, rows_same_at_most, rows_same_above, rows_and, rows_or, sized_at, sized_back}
use Rattle.kat_form.proofs.sizes.+sizes.Goals as goal

pub has_sized_rows-returns-in-AtMost : goal.has_sized_rows-returns-in-AtMost
has_sized_rows-returns-in-AtMost t c =
    let alone = sized_alone (rows_of c.args.formula.now) (form_of c.in-AtMost.row) (rows_same_at_most c.args.formula.now c.in-AtMost.row c.in-AtMost.is) in
    (λ h. alone.1 (c.is_sized_row.ensures.0 h), λ all. c.is_sized_row.ensures.1 (alone.0 all))

pub has_sized_rows-returns-in-Above : goal.has_sized_rows-returns-in-Above
has_sized_rows-returns-in-Above t c =
    let alone = sized_alone (rows_of c.args.formula.now) (form_of c.in-Above.row) (rows_same_above c.args.formula.now c.in-Above.row c.in-Above.is) in
    (λ h. alone.1 (c.is_sized_row-in-Above.ensures.0 h), λ all. c.is_sized_row-in-Above.ensures.1 (alone.0 all))

pub has_sized_rows-returns-in-And : goal.has_sized_rows-returns-in-And
has_sized_rows-returns-in-And t c =
    let P : List Form → Type 0 = AreSized in
    let e : rows_of c.args.formula.now ≡ rows_of_all c.deref.result.now = ap rows_of c.in-And.is ∙ rows_and c.in-And.parts ∙ ap rows_of_all (sym c.deref.ensures.value) in
    (λ h. subst P (sym e) (c.have_sized_rows.ensures.0 h), λ all. c.have_sized_rows.ensures.1 (subst P e all))

pub has_sized_rows-returns-in-Or : goal.has_sized_rows-returns-in-Or
has_sized_rows-returns-in-Or t c =
    let P : List Form → Type 0 = AreSized in
    let e : rows_of c.args.formula.now ≡ rows_of_all c.deref-in-Or.result.now = ap rows_of c.in-Or.is ∙ rows_or c.in-Or.parts ∙ ap rows_of_all (sym c.deref-in-Or.ensures.value) in
    (λ h. subst P (sym e) (c.have_sized_rows-in-Or.ensures.0 h), λ all. c.have_sized_rows-in-Or.ensures.1 (subst P e all))

pub have_sized_rows-returns-then-not-has_sized_rows : goal.have_sized_rows-returns-then-not-has_sized_rows
have_sized_rows-returns-then-not-has_sized_rows t c = (
  λ e. absurd (false≢true e),
  λ all. c.if-not-has_sized_rows.ensures.1 (sized_at c.args.formulas.now c.loop-formula.formula-index c.formula-item.result c.loop-formula-test.true c.formula-item.is all),
)

pub have_sized_rows-loop-formula-preserved : goal.have_sized_rows-loop-formula-preserved
have_sized_rows-loop-formula-preserved t c = λ rest.
    c.loop-formula.invariant (sized_back c.args.formulas.now c.loop-formula.formula-index c.formula-item.result c.loop-formula-test.true c.formula-item.is (c.if-not-has_sized_rows.ensures.0 refl) rest)
