use Rattle.std.proofs.Common.{◌∙◌, List, Option, ap, sym}
use Rattle.std.specs.Prelude.{slice_get}
use Rattle.kat_design.specs.Designs.{design_form}
use Rattle.kat_histories.specs.declared.cards.Card.{Card}
use Rattle.kat_hist.specs.Trials.{IsCardAt}
use Rattle.kat_type.specs.Types.{type_form}
use Rattle.kat_hist.proofs.Made.{card_decides_at, card_for, got_card, got_fits, one_kept}
use Rattle.kat_hist.proofs.trials.differs_by_card.Goals as goal

pub differs_by-requires-clause-of_history : goal.differs_by-requires-clause-of_history
differs_by-requires-clause-of_history c =
    let at : IsCardAt (type_form c.args.ty.now) c.args.whole.now c.args.number c.in-Some.card.now =
    c.requires.cards.each c.args.number c.in-Some.card.now (ap (λ (l : List (Option Card)). slice_get l c.args.number) (sym c.deref.ensures.value) ∙ c.in-Some.ensures) in
    card_for (type_form c.args.ty.now) c.args.design.now.sig c.args.whole.now c.args.number c.in-Some.card.now c.histories_fit.ensures c.requires.agrees c.requires.whole c.requires.within at

pub card-requires-clause-fits : goal.card-requires-clause-fits
card-requires-clause-fits c =
    got_fits (type_form c.args.ty.now) c.args.whole.now c.args.number c.in_ok-history.history c.histories_fit.ensures c.requires.whole c.in_ok-history.ensures

pub returns-in-Some-clause-decides : goal.returns-in-Some-clause-decides
returns-in-Some-clause-decides c =
    let at : IsCardAt (type_form c.args.ty.now) c.args.whole.now c.args.number c.in-Some.card.now =
    c.requires.cards.each c.args.number c.in-Some.card.now (ap (λ (l : List (Option Card)). slice_get l c.args.number) (sym c.deref.ensures.value) ∙ c.in-Some.ensures) in
    card_decides_at (type_form c.args.ty.now) (design_form c.args.design.now) c.args.whole.now c.args.number c.in-Some.card.now c.differs_by.result c.requires.agrees at c.differs_by.ensures

pub differs_by-requires-2-clause-of_history : goal.differs_by-requires-2-clause-of_history
differs_by-requires-2-clause-of_history c =
    card_for (type_form c.args.ty.now) c.args.design.now.sig c.args.whole.now c.args.number c.in_ok-card.card c.histories_fit.ensures c.requires.agrees c.requires.whole c.requires.within
    (got_card (type_form c.args.ty.now) c.args.whole.now c.args.number c.in_ok-history.history c.in_ok-card.card c.in_ok-history.ensures c.in_ok-card.ensures)

pub returns-clause-decides : goal.returns-clause-decides
returns-clause-decides c = λ history there.
    c.in_ok-differs.ensures (type_form c.args.ty.now) history (sym c.requires.agrees)
    (got_card (type_form c.args.ty.now) c.args.whole.now c.args.number c.in_ok-history.history c.in_ok-card.card c.in_ok-history.ensures c.in_ok-card.ensures history there)

pub returns-clause-cards : goal.returns-clause-cards
returns-clause-cards c =
    one_kept (IsCardAt (type_form c.args.ty.now) c.args.whole.now) c.args.cards.now.items c.keep.new.kept.items c.args.number c.in_ok-card.card c.requires.cards
    (got_card (type_form c.args.ty.now) c.args.whole.now c.args.number c.in_ok-history.history c.in_ok-card.card c.in_ok-history.ensures c.in_ok-card.ensures) c.keep.ensures
