use Rattle.std.proofs.Common.{rules, ◌≡◌, ◌∙◌, ◌^◌, List, ap, map, subst, sym}
use Rattle.std.specs.Prelude.{All}
use Rattle.kat_expr.specs.Limits.{IsAtMost}
use Rattle.kat_histories.specs.declared.calls.Call.{Call}
use Rattle.kat_histories.specs.declared.histories.History.{History}
use Rattle.kat_histories.specs.Answering.{card_answer}
use Rattle.kat_histories.proofs.SmallAsks.{asks_small}
use Rattle.kat_hist.proofs.CardMade.{is_card}
use Rattle.kat_seq.specs.Sizes.{HaveSmallArguments}
use Rattle.kat_type.specs.Signatures.{signature_of}
use Rattle.kat_type.specs.Types.{type_form}
use Rattle.kat_type.specs.declared.done.Done.{Done}
use Rattle.kat_hist.proofs.Asked.{dones_small}
use Rattle.kat_hist.proofs.answering.card.Goals as goal

pub states_after-requires-clause-args : goal.states_after-requires-clause-args
states_after-requires-clause-args c =
    subst (λ (ones : List Done). HaveSmallArguments ones) (sym c.as_slice.ensures) (dones_small (signature_of (type_form c.args.ty.now)) c.args.history.now.ops c.requires.fits.fits)

pub push_answers-requires-clause-asks : goal.push_answers-requires-clause-asks
push_answers-requires-clause-asks c =
    subst (λ (asks : List Call). All (λ (ask : Call). All (IsAtMost (2 ^ 100)) ask.args) asks) (sym (c.deref-2.ensures.value ∙ c.in_ok-asks.ensures)) (asks_small (signature_of (type_form c.args.ty.now)))

pub returns : goal.returns
returns c =
    let ty = type_form c.args.ty.now in
    let is : c.from_vec.result ≡ map (card_answer ty c.in_ok-states.states.items) c.in_ok-asks.asks.items = search rules in
    is_card ty c.args.history.now c.as_slice.result.now c.in_ok-copy.field-0.ops c.in_ok-states.states.items c.in_ok-asks.asks.items c.from_vec.result
    c.requires.fits.once c.as_slice.ensures (ap (λ (h : History). h.ops) c.in_ok-copy.ensures) c.in_ok-asks.ensures c.in_ok-states.ensures.states is
