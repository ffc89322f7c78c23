-- A card tells whether a design differs.
use Rattle.std.proofs.Common.{◌≡◌, ◌≢◌, suc, ◌^◌, inl, inr, Bool, true, false, List, [], ◌∷◌, refl, sym, ◌∙◌, ap, subst, Some, None, Option, arith}
use Rattle.std.specs.Prelude.{All}
use Rattle.std.specs.Bool.{Decides}
use Rattle.std.specs.List.{list_any}
use Rattle.kat_num.specs.declared.values.Value.{Value}
use Rattle.kat_design.specs.Answers as design
use Rattle.kat_design.specs.Denotations.{denotation_of}
use Rattle.kat_design.specs.Designs.{DesignForm}
use Rattle.kat_type.specs.Unions.{is_same_value}
use Rattle.kat_design.specs.declared.states.Part.{Part}
use Rattle.kat_expr.specs.Limits.{IsAtMost}
use Rattle.kat_seq.specs.States.{state_after}
use Rattle.kat_seq.specs.States as sequential
use Rattle.kat_type.proofs.Ordered.{all_had}
use Rattle.kat_type.specs.Lists.{Has}
use Rattle.kat_type.specs.Signatures.{signature_of}
use Rattle.kat_type.specs.Types.{TypeForm}
use Rattle.kat_type.specs.declared.done.Done.{Done}
use Rattle.kat_type.specs.declared.signatures.Signature.{Signature}
use Rattle.kat_histories.specs.Histories.{FitsHistory, history_of}
use Rattle.kat_histories.specs.Pools.{asks_of}
use Rattle.kat_histories.specs.declared.calls.Call.{Call}
use Rattle.kat_histories.specs.declared.histories.History.{History}
use Rattle.kat_histories.specs.Answering.{gives_other, is_missing, is_unsettled, misses}
use Rattle.kat_histories.specs.Cards.{IsAnswer, IsCard, IsCardFor, IsOneAnswer, ask_on}
use Rattle.kat_histories.specs.Differing.{Differs}
use Rattle.kat_histories.specs.declared.cards.Card.{Card}
use Rattle.kat_histories.specs.declared.cards.CardAnswer.{CardAnswer}
use Rattle.kat_histories.proofs.SmallAsks.{asks_small}
use Rattle.kat_histories.proofs.Members.{any_at, at_any, has_map, mapped}
use Rattle.kat_histories.proofs.SameValues.{clash, other_values, value_itself, value_same}

-- a design that doesn't give the one answer differs
missed : (ty : TypeForm) (d : DesignForm) (history : History) (ask : Call) (value : Option Value) → Has (asks_of (signature_of ty)) ask → IsOneAnswer ty history ask value
    → gives_other d (denotation_of d history.ops) ask value ≡ true → Differs ty d history
missed ty d history ask (Some value) asked one e = record {
  ask = ask;
  asked = asked;
  arranged = one.0.arranged;
  arranges = one.0.arranges;
  respects = one.0.respects;
  unlike = λ i. (other_values value (design.answer_of d (denotation_of d history.ops) ask.number ask.args)).0 e (i ∙ one.0.gives);
}
missed ty d history ask None asked two e = cases (is_same_value two.some own) refl where
  own : Value
  own = design.answer_of d (denotation_of d history.ops) ask.number ask.args

  by : (value : Value) → IsAnswer ty history ask value → own ≢ value → Differs ty d history
  by value a unlike = record { ask = ask; asked = asked; arranged = a.arranged; arranges = a.arranges; respects = a.respects; unlike = λ i. unlike (i ∙ a.gives) }

  cases : (b : Bool) → is_same_value two.some own ≡ b → Differs ty d history
  cases true same = by two.other two.second (λ i. two.unlike (value_same two.some own same ∙ i))
  cases false other = by two.some two.first (λ i. clash (is_same_value two.some own) (ap (is_same_value two.some) i ∙ value_itself two.some) other)

-- and one that differs misses an answer
misses_it : (ty : TypeForm) (d : DesignForm) (history : History) (w : Differs ty d history) (value : Option Value) → IsOneAnswer ty history w.ask value
    → gives_other d (denotation_of d history.ops) w.ask value ≡ true
misses_it ty d history w None two = refl
misses_it ty d history w (Some value) one =
    (other_values value (design.answer_of d (denotation_of d history.ops) w.ask.number w.ask.args)).1
    (λ i. w.unlike (i ∙ sym (one.1 (sequential.answer_of ty (state_after ty w.arranged) w.ask.number w.ask.args)
    (record { arranged = w.arranged; arranges = w.arranges; respects = w.respects; gives = refl }))))

card_tells : (ty : TypeForm) (d : DesignForm) (history : History) (card : Card) → IsCard ty history card
    → Decides (list_any (misses d (denotation_of d history.ops)) card.answers) (Differs ty d history)
card_tells ty d history card is = (
  λ e.
      let a = at_any (misses d (denotation_of d history.ops)) card.answers e in
      missed ty d history (ask_on a.0) a.0.value (subst (λ (l : List Call). Has l (ask_on a.0)) is.asks (has_map ask_on card.answers a.0 a.1)) (is.each a.0 a.1) a.2,
  λ w.
      let m = mapped ask_on card.answers w.ask (subst (λ (l : List Call). Has l w.ask) (sym is.asks) w.asked) in
      any_at (misses d (denotation_of d history.ops)) card.answers m.0 m.1
      (ap (λ (ask : Call). gives_other d (denotation_of d history.ops) ask m.0.value) m.2
      ∙ misses_it ty d history w m.0.value (subst (λ (ask : Call). IsOneAnswer ty history ask m.0.value) m.2 (is.each m.0 m.1))),
)

-- by a test of all its answers
pub card_decides : (d : DesignForm) (card : Card) (ops : List Done) (parts : List Part) (answers : List CardAnswer) (b : Bool) → answers ≡ card.answers → ops ≡ card.ops
    → parts ≡ denotation_of d ops → b ≡ list_any (misses d parts) answers → (ty : TypeForm) (history : History) → IsCard ty history card → Decides b (Differs ty d history)
card_decides d card ops parts answers b same at state e ty history is =
    let den : parts ≡ denotation_of d history.ops = state ∙ ap (denotation_of d) (at ∙ is.ops) in
    subst (λ (t : Bool). Decides t (Differs ty d history))
    (sym (e ∙ ap (λ (l : List CardAnswer). list_any (misses d parts) l) same ∙ ap (λ (p : List Part). list_any (misses d p) card.answers) den))
    (card_tells ty d history card is)

-- if two arrangements answer some query differently, each design differs
unsettled_misses : (d : DesignForm) (parts : List Part) (ask : Call) (value : Option Value) → is_missing value ≡ true
    → gives_other d parts ask value ≡ true
unsettled_misses d parts ask None e = refl
unsettled_misses d parts ask (Some value) e = absurd (cc e)

pub unsettled_decides : (d : DesignForm) (card : Card) (answers : List CardAnswer) (b : Bool) → answers ≡ card.answers → b ≡ list_any is_unsettled answers → b ≡ true
    → (ty : TypeForm) (history : History) → IsCard ty history card → Decides true (Differs ty d history)
unsettled_decides d card answers b same is e ty history k =
    let a = at_any is_unsettled card.answers (ap (list_any is_unsettled) (sym same) ∙ sym is ∙ e) in
    let there = any_at (misses d (denotation_of d history.ops)) card.answers a.0 a.1 (unsettled_misses d (denotation_of d history.ops) (ask_on a.0) a.0.value a.2) in
    (λ h. (card_tells ty d history card k).0 there, λ w. refl)

-- the asks and the operations of a card are small
pub card_asks : (sig : Signature) (card : Card) → IsCardFor sig card → All (λ (answer : CardAnswer). All (IsAtMost (2 ^ 100)) answer.args) card.answers
card_asks sig card c =
    all_had (λ (answer : CardAnswer). All (IsAtMost (2 ^ 100)) answer.args) card.answers
    (λ answer has. had (asks_of (signature_of c.ty)) (asks_small (signature_of c.ty)) (ask_on answer) (subst (λ (l : List Call). Has l (ask_on answer)) c.is.asks (has_map ask_on card.answers answer has))) where
      had : (asks : List Call) → All (λ (ask : Call). All (IsAtMost (2 ^ 100)) ask.args) asks → (ask : Call) → Has asks ask → All (IsAtMost (2 ^ 100)) ask.args
      had [] all ask h = absurd h
      had (a ∷ asks) all ask (inl i) = subst (λ (x : Call). All (IsAtMost (2 ^ 100)) x.args) i (all 0 a (omega arith))
      had (a ∷ asks) all ask (inr h) = had asks (λ k d lt. all (suc k) d (omega (arith, lt))) ask h

pub card_fits : (sig : Signature) (card : Card) (ops : List Done) → ops ≡ card.ops → IsCardFor sig card → FitsHistory sig (history_of ops)
card_fits sig card ops same c = subst (λ (h : History). FitsHistory sig h) (ap history_of (sym (same ∙ c.is.ops))) c.fits
