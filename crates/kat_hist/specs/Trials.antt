-- Used inside only.
-- What the orders of operations tell of all designs at once, and what is kept of it.
use Rattle.std.specs.Prelude.{◌≡◌, ◌⊎◌, Bool, true, false, ◌&&◌, ◌||◌, List, [], ◌∷◌, ℕ, Option, None, Some, length, map, slice_get}
use Rattle.std.specs.List.{list_any}
use Rattle.kat_num.specs.declared.values.Value.{Value}
use Rattle.kat_design.specs.Designs.{DesignForm}
use Rattle.kat_type.specs.Unions.{is_same_value}
use Rattle.kat_design.specs.declared.states.Part.{Part}
use Rattle.kat_expr.specs.declared.expressions.Slot.{Slot}
use Rattle.kat_type.specs.Fits.{IsWellSorted}
use Rattle.kat_type.specs.Signatures.{signature_of}
use Rattle.kat_type.specs.Types.{TypeForm}
use Rattle.kat_type.specs.Within.{IsWithinLimits}
use Rattle.kat_type.specs.declared.done.Done.{Done}
use Rattle.kat_histories.specs.Histories.{histories, history_of}
use Rattle.kat_histories.specs.Orders.{orders_of}
use Rattle.kat_histories.specs.Pools.{asks_of}
use Rattle.kat_histories.specs.declared.calls.Call.{Call}
use Rattle.kat_histories.specs.declared.histories.History.{History}
use Rattle.kat_histories.specs.Answering.{answer_in, is_other}
use Rattle.kat_histories.specs.Cards.{IsCard}
use Rattle.kat_histories.specs.declared.cards.Card.{Card}
use Rattle.kat_hist.specs.Arranging.{tells_apart}
use Rattle.kat_hist.specs.declared.trials.Trial.{Trial}

-- the answers of the type, in a state, to all asks
abbrev pub answers_in : TypeForm → List Slot → List Call → List Value
answers_in ty state asks = map (answer_in ty state) asks

-- the answers in a state are those that are known, as far as some are
abbrev pub are_known : TypeForm → List Slot → List Call → List Value → Bool
are_known ty state [] known = true
are_known ty state (ask ∷ asks) [] = true
are_known ty state (ask ∷ asks) (value ∷ known) = is_same_value value (answer_in ty state ask) && are_known ty state asks known

-- the design answers some of the asks otherwise, each given with one answer
abbrev pub some_other : DesignForm → List Part → List Call → List Value → Bool
some_other d parts [] answers = false
some_other d parts (ask ∷ asks) [] = false
some_other d parts (ask ∷ asks) (answer ∷ answers) = is_other d parts ask answer || some_other d parts asks answers

-- the same, when two orders may give different answers: then every design answers otherwise than after one of them
abbrev pub is_refuted : DesignForm → List Part → List Call → Option (List Value) → Bool
is_refuted d parts asks None = true
is_refuted d parts asks (Some answers) = some_other d parts asks answers

-- the answers tell of each design, in each state, what the orders tell
pub record Tells (ty : TypeForm) (asks : List Call) (orders : List (List Done)) (answers : Option (List Value)) : Type 0 where
  pub each : (d : DesignForm) (parts : List Part) → is_refuted d parts asks answers ≡ list_any (tells_apart ty d parts asks) orders

-- the same of some orders, after each of which the answers are the same; without an order that respects the ranks there are no answers
pub record Gathers (ty : TypeForm) (asks : List Call) (orders : List (List Done)) (answers : List Value) : Type 0 where
  pub long : (answers ≡ []) ⊎ (length answers ≡ length asks)
  pub tells : Tells ty asks orders (Some answers)

-- the answers after one more order are the same, or not
abbrev pub IsGathered : TypeForm → List Call → List (List Done) → Bool → List Value → Type 0
IsGathered ty asks orders true answers = Gathers ty asks orders answers
IsGathered ty asks orders false answers = Tells ty asks orders None

-- a trial tells what all orders of the operations of a history tell
pub record IsTrialOf (ty : TypeForm) (asks : List Call) (history : History) (trial : Trial) : Type 0 where
  pub ops : history_of trial.ops ≡ history
  pub tells : Tells ty asks (orders_of trial.ops) trial.answers

-- the same of the history with a number
abbrev pub IsTrialAt : TypeForm → List Call → List History → ℕ → Trial → Type 0
IsTrialAt ty asks whole number trial = (history : History) → slice_get whole number ≡ Some history → IsTrialOf ty asks history trial

-- what is kept with a number is what it must be
pub record AreKept {X : Type 0} (Is : ℕ → X → Type 0) (kept : List (Option X)) : Type 0 where
  pub each : (number : ℕ) (x : X) → slice_get kept number ≡ Some (Some x) → Is number x

-- each trial that is kept is that of the history with its number
abbrev pub AreTrials : TypeForm → List Call → List History → List (Option Trial) → Type 0
AreTrials ty asks whole kept = AreKept (IsTrialAt ty asks whole) kept

-- a card that is kept is that of the history with its number
abbrev pub IsCardAt : TypeForm → List History → ℕ → Card → Type 0
IsCardAt ty whole number card = (history : History) → slice_get whole number ≡ Some history → IsCard ty history card

abbrev pub AreCards : TypeForm → List History → List (Option Card) → Type 0
AreCards ty whole kept = AreKept (IsCardAt ty whole) kept

-- all histories of a type, its asks, and the trials and cards that are kept
pub record AreFor (ty : TypeForm) (whole : List History) (asks : List Call) (kept : List (Option Trial)) (cards : List (Option Card)) : Type 0 where
  pub limits : IsWithinLimits ty
  pub sorted : IsWellSorted ty
  pub all : whole ≡ histories (signature_of ty)
  pub asked : asks ≡ asks_of (signature_of ty)
  pub tried : AreTrials ty asks whole kept
  pub carded : AreCards ty whole cards
