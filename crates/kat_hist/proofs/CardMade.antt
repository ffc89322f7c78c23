-- A card has the one answer to each ask.
use Rattle.std.proofs.Common.{◌≡◌, inl, inr, ⊎_elim, Bool, true, false, List, [], ◌∷◌, map, refl, sym, ◌∙◌, ap, subst, Some, None}
use Rattle.std.specs.Prelude.{filter, ◌&&◌, if◌then◌else◌}
use Rattle.std.specs.List.{list_all}
use Rattle.kat_type.specs.Unions.{is_same_value}
use Rattle.kat_expr.specs.declared.expressions.Slot.{Slot}
use Rattle.kat_seq.specs.States.{state_after}
use Rattle.kat_type.specs.Arrangements.{Arranges, RespectsRanks}
use Rattle.kat_type.specs.Lists.{Has, IsOnce}
use Rattle.kat_type.specs.Signatures.{signature_of}
use Rattle.kat_type.specs.Types.{TypeForm}
use Rattle.kat_type.specs.declared.done.Done.{Done}
use Rattle.kat_histories.specs.Orders.{orders_of}
use Rattle.kat_histories.specs.Pools.{asks_of}
use Rattle.kat_histories.specs.declared.calls.Call.{Call}
use Rattle.kat_histories.specs.declared.histories.History.{History}
use Rattle.kat_histories.specs.Answering.{answer_in, card_answer, is_answer, one_answer}
use Rattle.kat_histories.specs.Cards.{IsAnswer, IsCard, IsOneAnswer, ask_on}
use Rattle.kat_histories.specs.declared.cards.CardAnswer.{CardAnswer}
use Rattle.kat_hist.specs.Arranging.{respects_ranks, states_of}
use Rattle.kat_histories.proofs.Members.{has_map, mapped}
use Rattle.kat_histories.proofs.Tests.{both_true}
use Rattle.kat_histories.proofs.SameValues.{clash, value_itself, value_same}
use Rattle.kat_hist.proofs.AllOrders.{order_once, order_same, order_there}
use Rattle.kat_hist.proofs.Ranking.{some_respects}
use Rattle.kat_hist.proofs.Telling.{respecting}

has_kept : {X : Type 0} (p : X → Bool) (xs : List X) (x : X) → Has xs x → p x ≡ true → Has (filter p xs) x
has_kept p [] x h e = absurd h
has_kept {X} p (y ∷ xs) x h e = cases (p y) refl h (λ k. has_kept p xs x k e) where
  cases : (b : Bool) → p y ≡ b → Has (y ∷ xs) x → (Has xs x → Has (filter p xs) x) → Has (if b then y ∷ filter p xs else filter p xs) x
  cases true is (inl i) rest = inl i
  cases true is (inr k) rest = inr (rest k)
  cases false is (inl i) rest = absurd (clash (p y) (ap p i ∙ e) is)
  cases false is (inr k) rest = rest k

kept_has : {X : Type 0} (p : X → Bool) (xs : List X) (x : X) → Has (filter p xs) x → Has xs x × (p x ≡ true)
kept_has p [] x h = absurd h
kept_has {X} p (y ∷ xs) x h = cases (p y) refl h (λ k. kept_has p xs x k) where
  cases : (b : Bool) → p y ≡ b → Has (if b then y ∷ filter p xs else filter p xs) x → (Has (filter p xs) x → Has xs x × (p x ≡ true)) → Has (y ∷ xs) x × (p x ≡ true)
  cases true is (inl i) rest = (inl i, ap p (sym i) ∙ is)
  cases true is (inr k) rest = let r = rest k in (inr r.0, r.1)
  cases false is k rest = let r = rest k in (inr r.0, r.1)

-- a state after an arrangement that respects the ranks
record IsState (ty : TypeForm) (history : History) (state : List Slot) : Type 0 where
  pub arranged : List Done
  pub arranges : Arranges arranged history.ops
  pub respects : RespectsRanks ty arranged
  pub is : state_after ty arranged ≡ state

state_there : (ty : TypeForm) (history : History) → IsOnce history.ops → (state : List Slot) → Has (states_of ty (orders_of history.ops)) state → IsState ty history state
state_there ty history once state h =
    let m = mapped (state_after ty) (filter (respects_ranks ty) (orders_of history.ops)) state h in
    let k = kept_has (respects_ranks ty) (orders_of history.ops) m.0 m.1 in
    record {
      arranged = m.0;
      arranges = record { once = order_once history.ops m.0 once k.0; same = order_same history.ops m.0 k.0 };
      respects = (respecting ty m.0).0 k.1;
      is = m.2;
    }

has_state : (ty : TypeForm) (history : History) → IsOnce history.ops → (arranged : List Done) → Arranges arranged history.ops → RespectsRanks ty arranged
    → Has (states_of ty (orders_of history.ops)) (state_after ty arranged)
has_state ty history once arranged a r =
    has_map (state_after ty) (filter (respects_ranks ty) (orders_of history.ops)) arranged
    (has_kept (respects_ranks ty) (orders_of history.ops) arranged (order_there history.ops arranged once a.once a.same) ((respecting ty arranged).1 r))

answer_from : (ty : TypeForm) (history : History) (ask : Call) (state : List Slot) → IsState ty history state → IsAnswer ty history ask (answer_in ty state ask)
answer_from ty history ask state s = record { arranged = s.arranged; arranges = s.arranges; respects = s.respects; gives = ap (λ (l : List Slot). answer_in ty l ask) s.is }

-- a test that some element doesn't pass
some_fails : {X : Type 0} (p : X → Bool) (xs : List X) → list_all p xs ≡ false → (x : X) × Has xs x × (p x ≡ false)
some_fails p [] e = absurd (cc e)
some_fails {X} p (x ∷ xs) e = cases (p x) refl e (λ h. some_fails p xs h) where
  cases : (b : Bool) → p x ≡ b → (b && list_all p xs) ≡ false → (list_all p xs ≡ false → (y : X) × Has xs y × (p y ≡ false)) → (y : X) × Has (x ∷ xs) y × (p y ≡ false)
  cases true is h rest = let r = rest h in (r.0, inr r.1, r.2)
  cases false is h rest = (x, inl refl, is)

each_passes : {X : Type 0} (p : X → Bool) (xs : List X) (x : X) → list_all p xs ≡ true → Has xs x → p x ≡ true
each_passes p [] x e h = absurd h
each_passes p (y ∷ xs) x e (inl i) = ap p (sym i) ∙ (both_true (p y) (list_all p xs) e).0
each_passes p (y ∷ xs) x e (inr h) = each_passes p xs x (both_true (p y) (list_all p xs) e).1 h

-- the one answer in all states after arrangements that respect the ranks
one_by : (ty : TypeForm) (history : History) (ask : Call) (state : List Slot) (states : List (List Slot)) (b : Bool) → list_all (is_answer ty ask (answer_in ty state ask)) states ≡ b
    → ((s : List Slot) → Has (state ∷ states) s → IsState ty history s)
    → ((arranged : List Done) → Arranges arranged history.ops → RespectsRanks ty arranged → Has (state ∷ states) (state_after ty arranged))
    → IsOneAnswer ty history ask (if b then Some (answer_in ty state ask) else None)
one_by ty history ask state states true e there all = (
  answer_from ty history ask state (there state (inl refl)),
  λ other a. sym a.gives ∙ ⊎_elim
      (λ (i : state ≡ state_after ty a.arranged). ap (λ (s : List Slot). answer_in ty s ask) (sym i))
      (λ (h : Has states (state_after ty a.arranged)). sym (value_same (answer_in ty state ask) (answer_in ty (state_after ty a.arranged) ask)
      (each_passes (is_answer ty ask (answer_in ty state ask)) states (state_after ty a.arranged) e h)))
      (all a.arranged a.arranges a.respects),
)
one_by ty history ask state states false e there all =
    let f = some_fails (is_answer ty ask (answer_in ty state ask)) states e in
    record {
      some = answer_in ty state ask;
      other = answer_in ty f.0 ask;
      first = answer_from ty history ask state (there state (inl refl));
      second = answer_from ty history ask f.0 (there f.0 (inr f.1));
      unlike = λ i. clash (is_same_value (answer_in ty state ask) (answer_in ty f.0 ask))
          (ap (is_same_value (answer_in ty state ask)) (sym i) ∙ value_itself (answer_in ty state ask)) f.2;
    }

one_of_states : (ty : TypeForm) (history : History) (ask : Call) (states : List (List Slot)) → ((s : List Slot) → Has states s → IsState ty history s)
    → ((arranged : List Done) → Arranges arranged history.ops → RespectsRanks ty arranged → Has states (state_after ty arranged))
    → ((s : List Slot) × Has states s) → IsOneAnswer ty history ask (one_answer ty states ask)
one_of_states ty history ask [] there all some = absurd some.1
one_of_states ty history ask (state ∷ states) there all some =
    one_by ty history ask state states (list_all (is_answer ty ask (answer_in ty state ask)) states) refl there all

one_answer_is : (ty : TypeForm) (history : History) (ask : Call) → IsOnce history.ops → IsOneAnswer ty history ask (one_answer ty (states_of ty (orders_of history.ops)) ask)
one_answer_is ty history ask once =
    let o = some_respects ty history.ops in
    one_of_states ty history ask (states_of ty (orders_of history.ops)) (state_there ty history once) (has_state ty history once)
    (state_after ty o.0, has_map (state_after ty) (filter (respects_ranks ty) (orders_of history.ops)) o.0 (has_kept (respects_ranks ty) (orders_of history.ops) o.0 o.1 o.2))

asks_back : (ty : TypeForm) (states : List (List Slot)) (asks : List Call) → map ask_on (map (card_answer ty states) asks) ≡ asks
asks_back ty states [] = refl
asks_back ty states (ask ∷ asks) = ap (λ (l : List Call). ask ∷ l) (asks_back ty states asks)

-- what is made is the card
pub is_card : (ty : TypeForm) (history : History) (ones ops : List Done) (states : List (List Slot)) (asks : List Call) (answers : List CardAnswer) → IsOnce history.ops → ones ≡ history.ops
    → ops ≡ history.ops → asks ≡ asks_of (signature_of ty) → states ≡ states_of ty (orders_of ones) → answers ≡ map (card_answer ty states) asks
    → IsCard ty history (record { ops = ops; answers = answers })
is_card ty history ones ops states asks answers once at same asked are is = record {
  ops = same;
  asks = ap (map ask_on) is ∙ asks_back ty states asks ∙ asked;
  each = λ answer has.
      let m = mapped (card_answer ty states) asks answer (subst (λ (l : List CardAnswer). Has l answer) is has) in
      subst (λ (a : CardAnswer). IsOneAnswer ty history (ask_on a) a.value) m.2
      (subst (λ (l : List (List Slot)). IsOneAnswer ty history m.0 (one_answer ty l m.0)) (sym (are ∙ ap (λ (l : List Done). states_of ty (orders_of l)) at)) (one_answer_is ty history m.0 once));
}
