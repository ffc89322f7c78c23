use Rattle.std.proofs.Common.{◌^◌, List, arith, subst, sym}
use Rattle.std.specs.Prelude.{All}
use Rattle.kat_design.specs.Designs.{design_form}
use Rattle.kat_design.specs.Small.{IsSmallPart}
use Rattle.kat_design.specs.declared.states.Part.{Part}
use Rattle.kat_expr.specs.Limits.{IsAtMost}
use Rattle.kat_histories.specs.declared.cards.CardAnswer.{CardAnswer}
use Rattle.kat_histories.proofs.CardLemmas.{card_asks, card_decides, card_fits, unsettled_decides}
use Rattle.kat_histories.proofs.telling.differs_by.Goals as goal

pub returns-then-some_unsettled : goal.returns-then-some_unsettled
returns-then-some_unsettled c = λ ty history same is.
    unsettled_decides (design_form c.args.design.now) c.args.card.now c.as_slice-answers.result.now c.some_unsettled.result c.as_slice-answers.ensures c.some_unsettled.ensures
    c.if-some_unsettled.true ty history is

pub misses_some-requires-clause-small : goal.misses_some-requires-clause-small
misses_some-requires-clause-small c =
    c.accepted_designs_are_small.ensures (design_form c.args.design.now) (c.accepted_designs_are_well_sorted.ensures.accepted (design_form c.args.design.now) c.requires.sorted)

pub misses_some-requires-clause-state : goal.misses_some-requires-clause-state
misses_some-requires-clause-state c =
    let fits = card_fits c.args.design.now.sig c.args.card.now c.as_slice.result.now c.as_slice.ensures c.requires.of_history in
    let few = fits.few in
    subst (λ (parts : List Part). All IsSmallPart parts) (sym c.in_ok-state.ensures)
    (c.denotations_are_small.ensures.small (design_form c.args.design.now) c.as_slice.result.now c.requires.sorted (omega (arith, few)) fits.fits)

pub misses_some-requires-clause-asks : goal.misses_some-requires-clause-asks
misses_some-requires-clause-asks c =
    subst (λ (answers : List CardAnswer). All (λ (answer : CardAnswer). All (IsAtMost (2 ^ 100)) answer.args) answers) (sym c.as_slice-answers.ensures)
    (card_asks c.args.design.now.sig c.args.card.now c.requires.of_history)

pub returns : goal.returns
returns c = λ ty history same is.
    card_decides (design_form c.args.design.now) c.args.card.now c.as_slice.result.now c.in_ok-state.state.parts c.as_slice-answers.result.now c.misses_some.result
    c.as_slice-answers.ensures c.as_slice.ensures c.in_ok-state.ensures c.misses_some.ensures ty history is
