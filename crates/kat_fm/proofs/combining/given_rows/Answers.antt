use Rattle.std.proofs.Common.{length, sym, ap, ◌∙◌, subst}
use Rattle.std.proofs.lemmas.List.{map_push}
use Rattle.kat_linear.specs.declared.Row.{Row}
use Rattle.kat_linear.specs.Rows.{form_of, IsAscending, IsSmall}
use Rattle.kat_fm.specs.Answers.{HasVariablesBelow}
use Rattle.kat_fm.specs.Combinations.{given_at}
use Rattle.kat_fm.specs.EntryViews.{combination_in}
use Rattle.kat_fm.specs.Views.{combinations}
use Rattle.kat_fm.proofs.GivenRows.{form_holds, given_more}
use Rattle.kat_fm.proofs.combining.given_rows.Goals as goal

pub given_row-requires-clause-ascending : goal.given_row-requires-clause-ascending
given_row-requires-clause-ascending c =
    let P : Row → Type 0 = λ r. IsAscending (form_of r) in
    subst P (sym c.index-rows-place.is) (form_holds IsAscending c.args.rows.now c.loop-place.place c.index-rows-place.result c.requires.ascending c.loop-place-test.true)

pub given_row-requires-clause-small : goal.given_row-requires-clause-small
given_row-requires-clause-small c =
    let P : Row → Type 0 = λ r. IsSmall (form_of r) in
    subst P (sym c.index-rows-place.is) (form_holds IsSmall c.args.rows.now c.loop-place.place c.index-rows-place.result c.requires.small c.loop-place-test.true)

pub loop-place-preserved : goal.loop-place-preserved
loop-place-preserved c =
    given_more c.args.vars _ c.loop-place.place c.args.rows.now c.index-rows-place.result _ _ (combination_in c.in_ok-given_row.field-0) _ c.loop-place-test.true
    (ap combinations c.in_ok-push.ensures.items ∙ map_push combination_in c.loop-place.all.items c.in_ok-given_row.field-0)
    (c.in_ok-given_row.ensures ∙ ap (λ r. given_at c.args.vars (length c.args.rows.now) c.loop-place.place (form_of r)) c.index-rows-place.is) c.loop-place.invariant

pub given_row-requires-clause-below : goal.given_row-requires-clause-below
given_row-requires-clause-below c =
    let P : Row → Type 0 = λ r. HasVariablesBelow c.args.vars (form_of r) in
    subst P (sym c.index-rows-place.is) (form_holds (HasVariablesBelow c.args.vars) c.args.rows.now c.loop-place.place c.index-rows-place.result c.requires.below c.loop-place-test.true)
