use Rattle.std.proofs.Common.{◌+◌, ◌∙◌, ◌^◌, List, ap, arith, refl, subst, sym}
use Rattle.std.specs.Prelude.{All, slice_get}
use Rattle.kat_design.specs.Designs.{design_form}
use Rattle.kat_expr.specs.Limits.{IsAtMost}
use Rattle.kat_histories.specs.Histories.{FitsHistory, history_of}
use Rattle.kat_histories.specs.declared.calls.Call.{Call}
use Rattle.kat_histories.specs.declared.histories.History.{History}
use Rattle.kat_histories.specs.Differing.{Differs}
use Rattle.kat_type.specs.Types.{type_form}
use Rattle.kat_type.specs.declared.done.Done.{Done}
use Rattle.kat_histories.proofs.SmallAsks.{asks_small}
use Rattle.kat_hist.proofs.Asked.{differs_slice}
use Rattle.kat_hist.proofs.Seeking.{first_found, none_found, none_next}
use Rattle.kat_hist.proofs.differing.first_among.Goals as goal

pub differs_on-requires-clause-asks : goal.differs_on-requires-clause-asks
differs_on-requires-clause-asks c =
    subst (λ (asks : List Call). All (λ (ask : Call). All (IsAtMost (2 ^ 100)) ask.args) asks) (sym c.requires.asks) (asks_small c.args.design.now.sig)

pub differs_on-requires-clause-fits : goal.differs_on-requires-clause-fits
differs_on-requires-clause-fits c =
    subst (λ (ones : List Done). FitsHistory c.args.design.now.sig (history_of ones)) (sym c.as_slice.ensures)
    (c.histories_fit.ensures c.args.design.now.sig c.loop-i.i c.in_ok-history.history
    (ap (λ (l : List History). slice_get l c.loop-i.i) (sym c.requires.whole) ∙ c.in_ok-history.ensures))

pub returns-then-branch : goal.returns-then-branch
returns-then-branch c =
    let fits : FitsHistory c.args.design.now.sig c.in_ok-history.history =
    c.histories_fit.ensures c.args.design.now.sig c.loop-i.i c.in_ok-history.history
    (ap (λ (l : List History). slice_get l c.loop-i.i) (sym c.requires.whole) ∙ c.in_ok-history.ensures) in
    first_found (Differs (type_form c.args.ty.now) (design_form c.args.design.now)) c.args.whole.now c.loop-i.i c.in_ok-history.history c.in_ok-differs_on.field-0 c.in_ok-history.ensures
    (differs_slice (type_form c.args.ty.now) (design_form c.args.design.now) c.in_ok-history.history c.as_slice.result.now c.args.asks.now c.in_ok-differs_on.field-0 c.as_slice.ensures fits.once
    c.requires.agrees c.requires.asks c.in_ok-differs_on.ensures)
    c.if-branch.true c.loop-i.invariant

pub loop-i-preserved : goal.loop-i-preserved
loop-i-preserved c =
    let fits : FitsHistory c.args.design.now.sig c.in_ok-history.history =
    c.histories_fit.ensures c.args.design.now.sig c.loop-i.i c.in_ok-history.history
    (ap (λ (l : List History). slice_get l c.loop-i.i) (sym c.requires.whole) ∙ c.in_ok-history.ensures) in
    none_next (Differs (type_form c.args.ty.now) (design_form c.args.design.now)) c.args.whole.now c.loop-i.i (c.loop-i.i + 1) c.in_ok-history.history c.in_ok-differs_on.field-0 refl
    c.in_ok-history.ensures
    (differs_slice (type_form c.args.ty.now) (design_form c.args.design.now) c.in_ok-history.history c.as_slice.result.now c.args.asks.now c.in_ok-differs_on.field-0 c.as_slice.ensures fits.once
    c.requires.agrees c.requires.asks c.in_ok-differs_on.ensures)
    c.if-branch.false c.loop-i.invariant

pub returns : goal.returns
returns c =
    none_found (Differs (type_form c.args.ty.now) (design_form c.args.design.now)) c.args.whole.now c.loop-i.i (omega (arith, c.loop-i-test.false, c.len-i-end.ensures)) c.loop-i.invariant
