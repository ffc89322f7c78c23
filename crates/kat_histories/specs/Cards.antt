-- Used inside only.
-- What a history asks of all designs of a type: the one answer to each query, if there is one.
use Rattle.std.specs.Prelude.{◌≡◌, ◌≢◌, List, map, Option, None, Some}
use Rattle.kat_num.specs.declared.values.Value.{Value}
use Rattle.kat_seq.specs.States.{answer_of, state_after}
use Rattle.kat_type.specs.Arrangements.{Arranges, RespectsRanks}
use Rattle.kat_type.specs.Lists.{Has}
use Rattle.kat_type.specs.Signatures.{signature_of}
use Rattle.kat_type.specs.Types.{TypeForm}
use Rattle.kat_type.specs.declared.done.Done.{Done}
use Rattle.kat_type.specs.declared.signatures.Signature.{Signature}
use Rattle.kat_histories.specs.Histories.{FitsHistory}
use Rattle.kat_histories.specs.Pools.{asks_of}
use Rattle.kat_histories.specs.declared.calls.Call.{Call}
use Rattle.kat_histories.specs.declared.histories.History.{History}
use Rattle.kat_histories.specs.declared.cards.Card.{Card}
use Rattle.kat_histories.specs.declared.cards.CardAnswer.{CardAnswer}

-- the type gives this answer after some arrangement of the operations that respects the ranks
pub record IsAnswer (ty : TypeForm) (history : History) (ask : Call) (value : Value) : Type 0 where
  pub arranged : List Done
  pub arranges : Arranges arranged history.ops
  pub respects : RespectsRanks ty arranged
  pub gives : answer_of ty (state_after ty arranged) ask.number ask.args ≡ value

-- two such arrangements give different answers
pub record HasTwoAnswers (ty : TypeForm) (history : History) (ask : Call) : Type 0 where
  pub some : Value
  pub other : Value
  pub first : IsAnswer ty history ask some
  pub second : IsAnswer ty history ask other
  pub unlike : some ≢ other

-- the one answer after all such arrangements; none if and only if two of them give different ones
abbrev pub IsOneAnswer : TypeForm → History → Call → Option Value → Type 0
IsOneAnswer ty history ask (Some value) = IsAnswer ty history ask value × ((other : Value) → IsAnswer ty history ask other → other ≡ value)
IsOneAnswer ty history ask None = HasTwoAnswers ty history ask

abbrev pub ask_on : CardAnswer → Call
ask_on answer = record { number = answer.query; args = answer.args }

-- the operations of a history, and for each query with each list of arguments of the pools, in order, the one answer
pub record IsCard (ty : TypeForm) (history : History) (card : Card) : Type 0 where
  pub ops : card.ops ≡ history.ops
  pub asks : map ask_on card.answers ≡ asks_of (signature_of ty)
  pub each : (answer : CardAnswer) → Has card.answers answer → IsOneAnswer ty history (ask_on answer) answer.value

-- the card of some history of some type with this signature
pub record IsCardFor (sig : Signature) (card : Card) : Type 0 where
  pub ty : TypeForm
  pub history : History
  pub agrees : signature_of ty ≡ sig
  pub fits : FitsHistory sig history
  pub is : IsCard ty history card
