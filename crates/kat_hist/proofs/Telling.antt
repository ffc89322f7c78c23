-- Some order of the operations shows that a design differs, if and only if it does.
use Rattle.std.proofs.Common.{◌≡◌, ◌≢◌, true, List, refl}
use Rattle.std.specs.Prelude.{not}
use Rattle.std.specs.Bool.{Decides}
use Rattle.std.specs.List.{list_any}
use Rattle.std.specs.declared.cmp.Ordering.{Ordering}
use Rattle.std.specs.declared.cmp.Ordering.TheVariants.{Less, Equal, Greater}
use Rattle.kat_design.specs.Answers as design
use Rattle.kat_design.specs.Denotations.{denotation_of}
use Rattle.kat_design.specs.Designs.{DesignForm}
use Rattle.kat_seq.specs.States.{state_after}
use Rattle.kat_seq.specs.States as sequential
use Rattle.kat_type.specs.Arrangements.{RespectsRanks}
use Rattle.kat_type.specs.Lists.{Has, IsOnce}
use Rattle.kat_type.specs.Ranks.{rank_cmp, rank_of}
use Rattle.kat_type.specs.Signatures.{signature_of}
use Rattle.kat_type.specs.Types.{TypeForm}
use Rattle.kat_type.specs.declared.done.Done.{Done}
use Rattle.kat_histories.specs.Orders.{is_less, orders_of}
use Rattle.kat_histories.specs.Pools.{asks_of}
use Rattle.kat_histories.specs.declared.calls.Call.{Call}
use Rattle.kat_histories.specs.declared.histories.History.{History}
use Rattle.kat_histories.specs.Differing.{Differs}
use Rattle.kat_hist.specs.Arranging.{is_unlike, may_follow, respects_ranks, tells_apart}
use Rattle.kat_histories.proofs.Members.{any_at, at_any}
use Rattle.kat_histories.proofs.Tests.{both_true, pairs_decided, true_both}
use Rattle.kat_histories.proofs.SameValues.{other_values}
use Rattle.kat_hist.proofs.AllOrders.{order_once, order_same, order_there}

not_less : (o : Ordering) → Decides (not (is_less o)) (o ≢ Less)
not_less Less = (λ e. absurd (cc e), λ n. absurd (n refl))
not_less Equal = (λ e i. cc i, λ n. refl)
not_less Greater = (λ e i. cc i, λ n. refl)

pub respecting : (ty : TypeForm) (arranged : List Done) → Decides (respects_ranks ty arranged) (RespectsRanks ty arranged)
respecting ty arranged =
    pairs_decided (may_follow ty) (λ earlier later. rank_cmp (rank_of ty later) (rank_of ty earlier) ≢ Less) arranged
    (λ earlier later. not_less (rank_cmp (rank_of ty later) (rank_of ty earlier)))

-- an order that tells apart, taken apart
told : (ty : TypeForm) (d : DesignForm) (history : History) (arranged : List Done) (ask : Call) → IsOnce history.ops
    → Has (orders_of history.ops) arranged → respects_ranks ty arranged ≡ true → Has (asks_of (signature_of ty)) ask
    → is_unlike ty d (denotation_of d history.ops) (state_after ty arranged) ask ≡ true → Differs ty d history
told ty d history arranged ask once has respects asked unlike = record {
  ask = ask;
  asked = asked;
  arranged = arranged;
  arranges = record { once = order_once history.ops arranged once has; same = order_same history.ops arranged has };
  respects = (respecting ty arranged).0 respects;
  unlike = (other_values (sequential.answer_of ty (state_after ty arranged) ask.number ask.args) (design.answer_of d (denotation_of d history.ops) ask.number ask.args)).0 unlike;
}

pub differs_told : (ty : TypeForm) (d : DesignForm) (history : History) → IsOnce history.ops
    → Decides (list_any (tells_apart ty d (denotation_of d history.ops) (asks_of (signature_of ty))) (orders_of history.ops)) (Differs ty d history)
differs_told ty d history once = (
  λ e.
      let some = at_any (tells_apart ty d (denotation_of d history.ops) (asks_of (signature_of ty))) (orders_of history.ops) e in
      let parts = both_true (respects_ranks ty some.0) (list_any (is_unlike ty d (denotation_of d history.ops) (state_after ty some.0)) (asks_of (signature_of ty))) some.2 in
      let ask = at_any (is_unlike ty d (denotation_of d history.ops) (state_after ty some.0)) (asks_of (signature_of ty)) parts.1 in
      told ty d history some.0 ask.0 once some.1 parts.0 ask.1 ask.2,
  λ w.
      any_at (tells_apart ty d (denotation_of d history.ops) (asks_of (signature_of ty))) (orders_of history.ops) w.arranged
      (order_there history.ops w.arranged once w.arranges.once w.arranges.same)
      (true_both (respects_ranks ty w.arranged) (list_any (is_unlike ty d (denotation_of d history.ops) (state_after ty w.arranged)) (asks_of (signature_of ty)))
      ((respecting ty w.arranged).1 w.respects)
      (any_at (is_unlike ty d (denotation_of d history.ops) (state_after ty w.arranged)) (asks_of (signature_of ty)) w.ask w.asked
      ((other_values (sequential.answer_of ty (state_after ty w.arranged) w.ask.number w.ask.args) (design.answer_of d (denotation_of d history.ops) w.ask.number w.ask.args)).1 w.unlike))),
)
