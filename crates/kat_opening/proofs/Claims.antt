-- The claims of conjuncts in step, and the sides at the start and before an operation.
use Rattle.std.proofs.Common.{ℕ, suc, pos, Bool, true, false, Option, Some, None, List, [], ◌∷◌}
use Rattle.std.specs.Prelude.{slice_get}
use Rattle.kat_form.specs.Facts.{Fact, listed}
use Rattle.kat_form.specs.Facts.Fact.{any_of}
use Rattle.kat_design.specs.Designs.{AskForm, DesignForm}
use Rattle.kat_relation.specs.declared.relations.Conjunct.{Conjunct}
use Rattle.kat_relation.specs.declared.relations.Conjunct.TheVariants.{Query, Equal, Bounded, AtLeast, Matched, Total}
use Rattle.kat_relation.specs.declared.relations.LeafRef.{LeafRef}
use Rattle.kat_type.specs.Types.{QueryForm, TypeForm}
use Rattle.kat_claims.specs.Claims.{same_answers, answers_read, place_of_ref, elements_read, equal_claim, bounded_claim, at_least_claim, matched_claim, total_claim, claim_read}
use Rattle.kat_symbols.specs.Readers.{Reader, Symbol}
use Rattle.kat_symbols.specs.Sides.{Side}
use Rattle.kat_claims.specs.States.{is_truth_at, is_truth_sort, old_side, start_at, start_side}
use Rattle.kat_symbols.specs.declared.names.Instance.{Instance}
use Rattle.kat_symbols.specs.declared.names.Name.TheVariants.{Begun, Element, Kept}
use Rattle.kat_symbols.specs.declared.names.Place.TheVariants.{Field, Leaf}
use Rattle.kat_opening.proofs.Forms.{World, AlikeForm, numeral_alike}
use Rattle.kat_opening.proofs.Facts.{SameFact, AlikePairs, denied_same, or_same, and_same, le_same, equal_same, truth_equal_same, symbol_of_alike, symbol_equal_same, symbols_lt_same}
use Rattle.kat_opening.proofs.Facts.SameFact.{both_known, both_any}
use Rattle.kat_opening.proofs.Facts.SameFacts.{both_none, both_more}
use Rattle.kat_opening.proofs.Facts.AlikeSymbol.{both_numbers}
use Rattle.kat_opening.proofs.Facts.AlikePairs.{no_pairs, pair_more}
use Rattle.kat_opening.proofs.Lockstep.{Goes, stays, goes_name, goes_flag}
use Rattle.kat_opening.proofs.Symbolic.{and_then, with_both, gives, goes_number, variable_twin, TwinFact}
use Rattle.kat_opening.proofs.Terms.{TwinSide, number_kept_twin, truth_kept_twin, number_twin, truth_twin, number_asked_twin, truth_asked_twin}

-- pairs that are read in step
abbrev pub TwinPairs : Reader → Bool → (Reader → List (Symbol × Symbol) × Reader) → Type 0
TwinPairs whole quiet read = (a b : Reader) → Goes whole quiet a b (read a).1 (read b).1 (λ w. AlikePairs w (read a).0 (read b).0)

pub old_twin : (whole : Reader) (quiet : Bool) (ty : TypeForm) (d : DesignForm) → TwinSide whole quiet (old_side ty d)
old_twin whole quiet ty d = record {
  value = λ place at. variable_twin whole quiet (is_truth_at ty d place) (Kept place at);
  begun = λ a b. goes_flag whole quiet Begun a b;
  element = λ j a b. goes_name whole quiet (Element j) a b;
}

pub start_twin : (whole : Reader) (quiet : Bool) (ty : TypeForm) (d : DesignForm) → TwinSide whole quiet (start_side ty d)
start_twin whole quiet ty d = record {
  value = λ place at a b. stays whole quiet a b _ (λ w. symbol_of_alike w (start_at ty d place));
  begun = λ a b. stays whole quiet a b _ (λ w. both_known false);
  element = λ j a b. goes_name whole quiet (Element j) a b;
}

four_same : (w : World) (a b c d e f g h : Fact) → SameFact w a b → SameFact w c d → SameFact w e f → SameFact w g h → SameFact w (any_of (listed (a ∷ c ∷ e ∷ g ∷ []))) (any_of (listed (b ∷ d ∷ f ∷ h ∷ [])))
four_same w a b c d e f g h p q s t = both_any _ _ (both_more a b _ _ p (both_more c d _ _ q (both_more e f _ _ s (both_more g h _ _ t both_none))))

module _ (whole : Reader) (quiet : Bool) (side : Side) (twin : TwinSide whole quiet side) where
  same_answers_twin : (at : Option Instance) (query : QueryForm) (ask : AskForm) (is_truth : Bool) → TwinFact whole quiet (same_answers side at query ask is_truth)
  same_answers_twin at query ask true a b = and_then (truth_twin whole quiet side twin at query.right a b) (truth_asked_twin whole quiet side twin at ask _ _) (λ w p q. truth_equal_same w _ _ _ _ p q)
  same_answers_twin at query ask false a b = and_then (number_twin whole quiet side twin at query.right a b) (number_asked_twin whole quiet side twin at ask _ _) (λ w p q. equal_same w _ _ _ _ p q)

  pub answers_twin : (at : Option Instance) (query : Option QueryForm) (ask : Option AskForm) → TwinFact whole quiet (answers_read side at query ask)
  answers_twin at None ask a b = stays whole quiet a b _ (λ w. both_known false)
  answers_twin at (Some query) None a b = stays whole quiet a b _ (λ w. both_known false)
  answers_twin at (Some query) (Some ask) a b = same_answers_twin at query ask (is_truth_sort query.sort) a b

  equal_twin : (at : Option Instance) (f : ℕ) (leaf : LeafRef) → TwinFact whole quiet (equal_claim side at f leaf)
  equal_twin at f leaf a b = and_then (twin.value (Field f) at a b) (twin.value (place_of_ref leaf) at _ _) (λ w p q. symbol_equal_same w _ _ _ _ p q)

  elements_twin : (at : Option Instance) (position : ℕ) (refs : List LeafRef) → TwinPairs whole quiet (elements_read side at position refs)
  elements_twin at position [] a b = stays whole quiet a b _ (λ w. no_pairs)
  elements_twin at position (ref ∷ refs) a b =
      let e = side.element position in
      let x = side.value (place_of_ref ref) at in
      and_then
      (goes_number whole quiet a b (x (e a).1).1 (x (e b).1).1 (λ w. AlikeForm w (e a).0 (e b).0) (x (e a).1).0 (x (e b).1).0
      (and_then (twin.element position a b) (twin.value (place_of_ref ref) at _ _) (λ w p q. (q, p))))
      (elements_twin at (suc position) refs _ _)
      (λ w p q. pair_more _ _ _ _ _ _ (both_numbers _ _ p.1) (both_numbers _ _ p.0) q)

  bounded_twin : (at : Option Instance) (leaves : List LeafRef) (position : ℕ) → TwinFact whole quiet (bounded_claim side at leaves position)
  bounded_twin at leaves position a b =
      and_then (twin.begun a b) (elements_twin at position leaves _ _) (λ w p q. or_same w _ _ _ _ (denied_same w _ _ p) (denied_same w _ _ (symbols_lt_same w _ _ q)))

  at_least_twin : (at : Option Instance) (leaf : LeafRef) (position digit : ℕ) → TwinFact whole quiet (at_least_claim side at leaf position digit)
  at_least_twin at leaf position digit a b =
      and_then (twin.begun a b) (with_both (truth_kept_twin whole quiet side twin (place_of_ref leaf) at _ _) (twin.element position _ _))
      (λ w p q. or_same w _ _ _ _ (denied_same w _ _ q.0) (and_same w _ _ _ _ p (le_same w _ _ _ _ (numeral_alike w (pos digit)) q.1)))

  matched_twin : (at : Option Instance) (first : LeafRef) (position : ℕ) (second : LeafRef) (later digit : ℕ) → TwinFact whole quiet (matched_claim side at first position second later digit)
  matched_twin at first position second later digit a b =
      and_then (twin.begun a b)
      (with_both (with_both (number_kept_twin whole quiet side twin (place_of_ref first) at _ _) (twin.element position _ _))
      (with_both (truth_kept_twin whole quiet side twin (place_of_ref second) at _ _) (twin.element later _ _)))
      (λ w p q. four_same w _ _ _ _ _ _ _ _ (denied_same w _ _ p) (denied_same w _ _ (equal_same w _ _ _ _ q.0.0 q.0.1)) (denied_same w _ _ q.1.0) (le_same w _ _ _ _ (numeral_alike w (pos digit)) q.1.1))

  total_twin : (at : Option Instance) (component : ℕ) → TwinFact whole quiet (total_claim side at component)
  total_twin at component a b = gives (number_kept_twin whole quiet side twin (Leaf component 0) at a b) (λ w h. le_same w _ _ _ _ (numeral_alike w (pos 0)) h)

  pub claim_twin : (ty : TypeForm) (d : DesignForm) (c : Conjunct) (at : Option Instance) → TwinFact whole quiet (claim_read ty d side c at)
  claim_twin ty d (Query query) at a b = answers_twin at (slice_get ty.queries query) (slice_get d.asks query) a b
  claim_twin ty d (Equal f leaf) at a b = equal_twin at f leaf a b
  claim_twin ty d (Bounded leaves position) at a b = bounded_twin at leaves position a b
  claim_twin ty d (AtLeast leaf position digit) at a b = at_least_twin at leaf position digit a b
  claim_twin ty d (Matched first position second later digit) at a b = matched_twin at first position second later digit a b
  claim_twin ty d (Total component) at a b = total_twin at component a b
