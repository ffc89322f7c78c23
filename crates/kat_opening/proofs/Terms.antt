-- Expressions and asks in step.
use Rattle.std.proofs.Common.{ℕ, pos, Bool, Option, Some, None}
use Rattle.std.specs.Prelude.{option_map}
use Rattle.kat_expr.specs.Terms.{Term}
use Rattle.kat_expr.specs.Terms.Term.{constant, field, entry, parameter, negation, both, either, less, at_most, same, sum, difference, greater, lesser, choice}
use Rattle.kat_design.specs.Designs.{AskForm}
use Rattle.kat_design.specs.Designs.AskForm.{leaf as a_leaf, parameter as ask_parameter, constant as ask_constant, negation as ask_negation, both as ask_both, either as ask_either, less as ask_less, sum as ask_sum, difference as ask_difference}
use Rattle.kat_claims.specs.Asks.{number_asked, truth_asked}
use Rattle.kat_symbols.specs.Readers.{Reader}
use Rattle.kat_symbols.specs.Sides.{Side, given}
use Rattle.kat_symbols.specs.Terms.{number_kept, truth_kept, number_read, truth_read}
use Rattle.kat_symbols.specs.declared.names.Instance.{Instance}
use Rattle.kat_symbols.specs.declared.names.Name.TheVariants.{Key}
use Rattle.kat_symbols.specs.declared.names.Place.{Place}
use Rattle.kat_symbols.specs.declared.names.Place.TheVariants.{Field, Leaf}
use Rattle.kat_opening.proofs.Forms.{numeral_alike, plus_alike, minus_alike}
use Rattle.kat_opening.proofs.Facts.{number_in_alike, truth_in_same, symbol_of_alike, denied_same, and_same, or_same, lt_same, le_same, equal_same}
use Rattle.kat_opening.proofs.Facts.SameFact.{both_known}
use Rattle.kat_opening.proofs.Lockstep.{stays, goes_name, goes_flag}
use Rattle.kat_opening.proofs.Symbolic.{and_then, with_both, gives, chooses, TwinForm, TwinFact, TwinSymbol}
use Rattle.std.specs.Prelude.{false}

-- a side that is read in step
pub record TwinSide (whole : Reader) (quiet : Bool) (side : Side) : Type 0 where
  pub value : (place : Place) (at : Option Instance) → TwinSymbol whole quiet (side.value place at)
  pub begun : TwinFact whole quiet side.begun
  pub element : (j : ℕ) → TwinForm whole quiet (side.element j)

module _ (whole : Reader) (quiet : Bool) (side : Side) (twin : TwinSide whole quiet side) where
  pub number_kept_twin : (place : Place) (at : Option Instance) → TwinForm whole quiet (number_kept side place at)
  number_kept_twin place at a b = gives (twin.value place at a b) (λ w h. number_in_alike w _ _ h)

  pub truth_kept_twin : (place : Place) (at : Option Instance) → TwinFact whole quiet (truth_kept side place at)
  truth_kept_twin place at a b = gives (twin.value place at a b) (λ w h. truth_in_same w _ _ h)

  mutual
    pub number_twin : (at : Option Instance) (t : Term) → TwinForm whole quiet (number_read side at t)
    number_twin at (constant v) a b = stays whole quiet a b _ (λ w. number_in_alike w _ _ (symbol_of_alike w v))
    number_twin at (field f) a b = number_kept_twin (Field f) None a b
    number_twin at (entry f j) a b = number_kept_twin (Field f) (Some (given at j)) a b
    number_twin at (parameter j) a b = goes_name whole quiet (Key (given at j)) a b
    number_twin at (negation t) a b = stays whole quiet a b _ (λ w. numeral_alike w (pos 0))
    number_twin at (both t u) a b = stays whole quiet a b _ (λ w. numeral_alike w (pos 0))
    number_twin at (either t u) a b = stays whole quiet a b _ (λ w. numeral_alike w (pos 0))
    number_twin at (less t u) a b = stays whole quiet a b _ (λ w. numeral_alike w (pos 0))
    number_twin at (at_most t u) a b = stays whole quiet a b _ (λ w. numeral_alike w (pos 0))
    number_twin at (same t u) a b = stays whole quiet a b _ (λ w. numeral_alike w (pos 0))
    number_twin at (sum t u) a b = and_then (number_twin at t a b) (number_twin at u _ _) (λ w p q. plus_alike w _ _ _ _ p q)
    number_twin at (difference t u) a b = and_then (number_twin at t a b) (number_twin at u _ _) (λ w p q. minus_alike w _ _ _ _ p q)
    number_twin at (greater t u) a b =
        gives (chooses {P = λ w. Unit {0}} (and_then (number_twin at t a b) (number_twin at u _ _) (λ w p q. record { test = lt_same w _ _ _ _ p q; left = q; right = p; besides = tt }))) (λ w h. h.0)
    number_twin at (lesser t u) a b =
        gives (chooses {P = λ w. Unit {0}} (and_then (number_twin at t a b) (number_twin at u _ _) (λ w p q. record { test = lt_same w _ _ _ _ p q; left = p; right = q; besides = tt }))) (λ w h. h.0)
    number_twin at (choice c t u) a b =
        gives (chooses {P = λ w. Unit {0}} (and_then (truth_twin at c a b) (with_both (number_twin at t _ _) (number_twin at u _ _)) (λ w o pq. record { test = o; left = pq.0; right = pq.1; besides = tt }))) (λ w h. h.0)

    pub truth_twin : (at : Option Instance) (t : Term) → TwinFact whole quiet (truth_read side at t)
    truth_twin at (constant v) a b = stays whole quiet a b _ (λ w. truth_in_same w _ _ (symbol_of_alike w v))
    truth_twin at (field f) a b = truth_kept_twin (Field f) None a b
    truth_twin at (entry f j) a b = truth_kept_twin (Field f) (Some (given at j)) a b
    truth_twin at (parameter j) a b = goes_flag whole quiet (Key (given at j)) a b
    truth_twin at (negation t) a b = gives (truth_twin at t a b) (λ w h. denied_same w _ _ h)
    truth_twin at (both t u) a b = and_then (truth_twin at t a b) (truth_twin at u _ _) (λ w p q. and_same w _ _ _ _ p q)
    truth_twin at (either t u) a b = and_then (truth_twin at t a b) (truth_twin at u _ _) (λ w p q. or_same w _ _ _ _ p q)
    truth_twin at (less t u) a b = and_then (number_twin at t a b) (number_twin at u _ _) (λ w p q. lt_same w _ _ _ _ p q)
    truth_twin at (at_most t u) a b = and_then (number_twin at t a b) (number_twin at u _ _) (λ w p q. le_same w _ _ _ _ p q)
    truth_twin at (same t u) a b = and_then (number_twin at t a b) (number_twin at u _ _) (λ w p q. equal_same w _ _ _ _ p q)
    truth_twin at (sum t u) a b = stays whole quiet a b _ (λ w. both_known false)
    truth_twin at (difference t u) a b = stays whole quiet a b _ (λ w. both_known false)
    truth_twin at (greater t u) a b = stays whole quiet a b _ (λ w. both_known false)
    truth_twin at (lesser t u) a b = stays whole quiet a b _ (λ w. both_known false)
    truth_twin at (choice c t u) a b = stays whole quiet a b _ (λ w. both_known false)

  pub number_asked_twin : (at : Option Instance) (t : AskForm) → TwinForm whole quiet (number_asked side at t)
  number_asked_twin at (a_leaf c l key) a b = number_kept_twin (Leaf c l) (option_map (given at) key) a b
  number_asked_twin at (ask_parameter j) a b = goes_name whole quiet (Key (given at j)) a b
  number_asked_twin at (ask_constant v) a b = stays whole quiet a b _ (λ w. number_in_alike w _ _ (symbol_of_alike w v))
  number_asked_twin at (ask_negation t) a b = stays whole quiet a b _ (λ w. numeral_alike w (pos 0))
  number_asked_twin at (ask_both t u) a b = stays whole quiet a b _ (λ w. numeral_alike w (pos 0))
  number_asked_twin at (ask_either t u) a b = stays whole quiet a b _ (λ w. numeral_alike w (pos 0))
  number_asked_twin at (ask_less t u) a b = stays whole quiet a b _ (λ w. numeral_alike w (pos 0))
  number_asked_twin at (ask_sum t u) a b = and_then (number_asked_twin at t a b) (number_asked_twin at u _ _) (λ w p q. plus_alike w _ _ _ _ p q)
  number_asked_twin at (ask_difference t u) a b = and_then (number_asked_twin at t a b) (number_asked_twin at u _ _) (λ w p q. minus_alike w _ _ _ _ p q)

  pub truth_asked_twin : (at : Option Instance) (t : AskForm) → TwinFact whole quiet (truth_asked side at t)
  truth_asked_twin at (a_leaf c l key) a b = truth_kept_twin (Leaf c l) (option_map (given at) key) a b
  truth_asked_twin at (ask_parameter j) a b = goes_flag whole quiet (Key (given at j)) a b
  truth_asked_twin at (ask_constant v) a b = stays whole quiet a b _ (λ w. truth_in_same w _ _ (symbol_of_alike w v))
  truth_asked_twin at (ask_negation t) a b = gives (truth_asked_twin at t a b) (λ w h. denied_same w _ _ h)
  truth_asked_twin at (ask_both t u) a b = and_then (truth_asked_twin at t a b) (truth_asked_twin at u _ _) (λ w p q. and_same w _ _ _ _ p q)
  truth_asked_twin at (ask_either t u) a b = and_then (truth_asked_twin at t a b) (truth_asked_twin at u _ _) (λ w p q. or_same w _ _ _ _ p q)
  truth_asked_twin at (ask_less t u) a b = and_then (number_asked_twin at t a b) (number_asked_twin at u _ _) (λ w p q. lt_same w _ _ _ _ p q)
  truth_asked_twin at (ask_sum t u) a b = stays whole quiet a b _ (λ w. both_known false)
  truth_asked_twin at (ask_difference t u) a b = stays whole quiet a b _ (λ w. both_known false)
