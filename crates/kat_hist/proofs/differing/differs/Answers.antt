use Rattle.std.proofs.Common.{◌≡◌, ◌∙◌, ◌^◌, Bool, List, subst, sym}
use Rattle.std.specs.Prelude.{All, IfOk}
use Rattle.std.specs.Bool.{Decides}
use Rattle.std.specs.List.{list_any}
use Rattle.kat_design.specs.Denotations.{denotation_of}
use Rattle.kat_design.specs.Designs.{design_form}
use Rattle.kat_expr.specs.Limits.{IsAtMost}
use Rattle.kat_histories.specs.Orders.{orders_of}
use Rattle.kat_histories.specs.declared.calls.Call.{Call}
use Rattle.kat_histories.specs.Differing.{Differs}
use Rattle.kat_hist.specs.Arranging.{tells_apart}
use Rattle.kat_type.specs.Types.{type_form}
use Rattle.kat_type.specs.declared.done.Done.{Done}
use Rattle.kat_histories.proofs.SmallAsks.{asks_small}
use Rattle.kat_histories.proofs.Results.{if_ok}
use Rattle.kat_hist.proofs.Asked.{differs_by}
use Rattle.kat_hist.proofs.differing.differs.Goals as goal

pub differs_on-requires-clause-small : goal.differs_on-requires-clause-small
differs_on-requires-clause-small c =
    c.accepted_designs_are_small.ensures (design_form c.args.design.now) (c.accepted_designs_are_well_sorted.ensures.accepted (design_form c.args.design.now) c.requires.sorted)

pub differs_on-requires-clause-asks : goal.differs_on-requires-clause-asks
differs_on-requires-clause-asks c =
    subst (λ (asks : List Call). All (λ (ask : Call). All (IsAtMost (2 ^ 100)) ask.args) asks) (sym (c.deref.ensures.value ∙ c.in_ok-asks.ensures)) (asks_small c.args.design.now.sig)

pub returns : goal.returns
returns c =
    if_ok c.differs_on.result
    (λ (found : Bool). found ≡ list_any (tells_apart (type_form c.args.ty.now) (design_form c.args.design.now)
    (denotation_of (design_form c.args.design.now) c.args.history.now.ops) c.deref.result.now) (orders_of c.args.history.now.ops))
    (λ (found : Bool). Decides found (Differs (type_form c.args.ty.now) (design_form c.args.design.now) c.args.history.now))
    (subst (λ (ones : List Done). IfOk c.differs_on.result (λ (found : Bool). found ≡ list_any (tells_apart (type_form c.args.ty.now) (design_form c.args.design.now)
    (denotation_of (design_form c.args.design.now) ones) c.deref.result.now) (orders_of ones))) c.as_slice.ensures c.differs_on.ensures)
    (λ found e. differs_by (type_form c.args.ty.now) (design_form c.args.design.now) c.args.history.now c.deref.result.now found c.requires.fits.once c.requires.agrees
    (c.deref.ensures.value ∙ c.in_ok-asks.ensures) e)
