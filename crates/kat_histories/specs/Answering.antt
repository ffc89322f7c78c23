-- Used inside only.
-- Used by kat_hist: the one answer in some states of a type, and whether a design gives the answers of a card.
use Rattle.std.specs.Prelude.{Bool, true, false, not, List, [], ◌∷◌, Option, None, Some, if◌then◌else◌}
use Rattle.std.specs.List.{list_all}
use Rattle.kat_num.specs.declared.values.Value.{Value}
use Rattle.kat_design.specs.Answers as design
use Rattle.kat_design.specs.Designs.{DesignForm}
use Rattle.kat_type.specs.Unions.{is_same_value}
use Rattle.kat_design.specs.declared.states.Part.{Part}
use Rattle.kat_expr.specs.declared.expressions.Slot.{Slot}
use Rattle.kat_seq.specs.States as sequential
use Rattle.kat_type.specs.Types.{TypeForm}
use Rattle.kat_histories.specs.declared.calls.Call.{Call}
use Rattle.kat_histories.specs.Cards.{ask_on}
use Rattle.kat_histories.specs.declared.cards.CardAnswer.{CardAnswer}

-- the answer of the type, in a state, to an ask
abbrev pub answer_in : TypeForm → List Slot → Call → Value
answer_in ty state ask = sequential.answer_of ty state ask.number ask.args

abbrev pub is_answer : TypeForm → Call → Value → List Slot → Bool
is_answer ty ask value state = is_same_value value (answer_in ty state ask)

-- the answer in the first state, if it is that in the others
abbrev pub one_answer : TypeForm → List (List Slot) → Call → Option Value
one_answer ty [] ask = None
one_answer ty (state ∷ states) ask = if list_all (is_answer ty ask (answer_in ty state ask)) states then Some (answer_in ty state ask) else None

abbrev pub card_answer : TypeForm → List (List Slot) → Call → CardAnswer
card_answer ty states ask = record { query = ask.number; args = ask.args; value = one_answer ty states ask }

-- no answer is the one
abbrev pub is_missing : Option Value → Bool
is_missing None = true
is_missing (Some value) = false

abbrev pub is_unsettled : CardAnswer → Bool
is_unsettled answer = is_missing answer.value

-- the design answers an ask otherwise
abbrev pub is_other : DesignForm → List Part → Call → Value → Bool
is_other d parts ask answer = not (is_same_value answer (design.answer_of d parts ask.number ask.args))

-- the design doesn't give the one answer
abbrev pub gives_other : DesignForm → List Part → Call → Option Value → Bool
gives_other d parts ask None = true
gives_other d parts ask (Some value) = is_other d parts ask value

abbrev pub misses : DesignForm → List Part → CardAnswer → Bool
misses d parts answer = gives_other d parts (ask_on answer) answer.value
