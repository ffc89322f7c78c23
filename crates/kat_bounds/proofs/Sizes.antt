-- Light forms have small numbers, and facts with such forms are sized and their encoding fit.
use Rattle.std.proofs.Common.{◌≡◌, ℕ, suc, ◌+◌, ◌*◌, ◌-◌, ◌<◌, ◌≤◌, List, [], ◌∷◌, All, length, arith, Some}
use Rattle.std.specs.Prelude.{◌^◌, slice_get, unsigned_abs}
use Rattle.std.proofs.lemmas.List.Elements.{All-weaker}
use Rattle.kat_linear.specs.Rows.{Form, IsAscending, Term}
use Rattle.kat_form.specs.Facts.{IsSized}
use Rattle.kat_form.proofs.FitFacts.{sized_facts_are_fit}
use Rattle.kat_cases.proofs.DecisivePoints.{sized_facts_are_walkable}
use Rattle.kat_relation.specs.Fits.{FitsConjunct}
use Rattle.kat_relation.specs.declared.relations.Conjunct.{Conjunct}
use Rattle.kat_design.specs.Designs.{DesignForm}
use Rattle.kat_type.specs.Fits.{OperationFits, QueryFits}
use Rattle.kat_type.specs.Types.{OperationForm, QueryForm, TypeForm}
use Rattle.kat_vc.specs.Conditions.{Condition, conditions, facts_of_condition}
use Rattle.kat_bounds.specs.Accepted.{AreAccepted}
use Rattle.kat_bounds.specs.Laws.{FactsAreFit, FactsAreSized, FactsAreSmall, FactsAreWalkable, FactsAscend, HasSmallNumbers, HasVariablesBelow, VariablesAreFew, WhatIsReadIsAccepted, forms_of, most_conjuncts}
use Rattle.kat_bounds.proofs.Weights.{AreNumbered, IsUpTo, terms_weight}
use Rattle.kat_bounds.proofs.Facts.{most, fact_most, Every}
use Rattle.kat_bounds.proofs.Conditions.{all_every, condition_cost, each_every, every_all, every_get, every_weaker}
use Rattle.kat_bounds.proofs.Lengths.{IsNarrow, IsSmallCondition, condition_few, conditions_small, is_narrow}
use Rattle.kat_bounds.proofs.Premises.{every_two, light_forms}
use Rattle.kat_bounds.proofs.Written.{file_named, file_ranks}
use Rattle.kat_design.proofs.Accepted.{well_sorted}
use Rattle.kat_type_file.proofs.Limiting.{file_limited, file_sorted}

fact_low : fact_most ≤ 2 ^ 125
unfolding most
fact_low = omega arith

terms_small : (n : ℕ) (ts : List Term) → terms_weight ts ≤ n → All (λ (t : Term). unsigned_abs t.1 ≤ n) ts
terms_small n ts h = all_every (λ (t : Term). unsigned_abs t.1 ≤ n) ts (each n ts h)
  where
    each : (n : ℕ) (ts : List Term) → terms_weight ts ≤ n → Every (λ (t : Term). unsigned_abs t.1 ≤ n) ts
    each n [] h = tt
    each n (t ∷ ts) h = (omega (arith, h), each n ts (omega (arith, h)))

terms_below : (count : ℕ) (ts : List Term) → AreNumbered count ts → All (λ (t : Term). t.0 < count) ts
terms_below count ts h = all_every (λ (t : Term). t.0 < count) ts (each count ts h)
  where
    each : (count : ℕ) (ts : List Term) → AreNumbered count ts → Every (λ (t : Term). t.0 < count) ts
    each count [] h = tt
    each count (t ∷ ts) h = (h.0, each count ts h.1)

-- a reader's slots are at most
abbrev slots_for : List Conjunct → ℕ
slots_for relation = 2 ^ 24 + 2_320 * length relation

small_numbers : (count : ℕ) (form : Form) → IsUpTo count fact_most form → HasSmallNumbers form
small_numbers count form h = record { coefficients = terms_small (2 ^ 125) form.terms (omega (arith, h.weight, fact_low)); constant = omega (arith, h.weight, fact_low) }

module _ (ty : TypeForm) (design : DesignForm) (relation : List Conjunct) (accepted : AreAccepted ty design relation) where
  ranks : Every (λ (o : OperationForm). length o.ranks ≤ 3) ty.ops
  ranks = every_all (λ (o : OperationForm). length o.ranks ≤ 3) ty.ops accepted.ranks

  narrow : Every IsNarrow relation
  narrow = every_weaker (FitsConjunct ty design.components) IsNarrow relation (is_narrow ty design.components ranks) (each_every (FitsConjunct ty design.components) relation accepted.conjuncts)

  operations : Every (λ (o : OperationForm). (length o.params ≤ 4) × (length o.ranks ≤ 3)) ty.ops
  operations =
      every_two (λ (o : OperationForm). length o.params ≤ 4) (λ (o : OperationForm). length o.ranks ≤ 3) ty.ops
      (every_weaker (OperationFits ty.fields) (λ (o : OperationForm). length o.params ≤ 4) ty.ops (λ o h. h.few) (every_all (OperationFits ty.fields) ty.ops accepted.sorted.operations)) ranks

  queries : Every (λ (q : QueryForm). length q.params ≤ 4) ty.queries
  queries = every_weaker (QueryFits ty.fields) (λ (q : QueryForm). length q.params ≤ 4) ty.queries (λ q h. h.few) (every_all (QueryFits ty.fields) ty.queries accepted.sorted.queries)

  has_room : (k : ℕ) (condition : Condition) → slice_get (conditions ty relation) (k - 1) ≡ Some condition → condition_cost ty design relation condition ≤ slots_for relation
  has_room k condition e =
      let fields = accepted.sorted.few_fields in
      let ops = accepted.sorted.few_operations in
      let small = accepted.right.small in
      condition_few ty design fields ops small ranks relation narrow condition
      (every_get (IsSmallCondition ty design fields ops small ranks relation narrow) (conditions ty relation) (k - 1) condition (conditions_small ty design fields ops small ranks relation narrow operations queries) e)

  light : (k : ℕ) → Every (IsUpTo (slots_for relation) fact_most) (forms_of ty design relation k)
  light k = light_forms ty design relation accepted (slots_for relation) k (has_room k)

  each_small : (k : ℕ) → Every HasSmallNumbers (forms_of ty design relation k)
  each_small k = every_weaker (IsUpTo (slots_for relation) fact_most) HasSmallNumbers (forms_of ty design relation k) (small_numbers (slots_for relation)) (light k)

  each_ascends : (k : ℕ) → Every IsAscending (forms_of ty design relation k)
  each_ascends k = every_weaker (IsUpTo (slots_for relation) fact_most) IsAscending (forms_of ty design relation k) (λ form h. h.ascending) (light k)

  each_below : (k : ℕ) → Every (HasVariablesBelow (slots_for relation)) (forms_of ty design relation k)
  each_below k = every_weaker (IsUpTo (slots_for relation) fact_most) (HasVariablesBelow (slots_for relation)) (forms_of ty design relation k) (λ form h. terms_below (slots_for relation) form.terms h.numbered) (light k)

few_slots : (relation : List Conjunct) → length relation ≤ most_conjuncts → slots_for relation ≤ 2 ^ 32 - 1
few_slots relation few = omega (arith, few)

is_sized : (count : ℕ) (form : Form) → count ≤ 2 ^ 32 - 1 → HasSmallNumbers form × HasVariablesBelow count form → IsSized form
is_sized count form le h = record {
  variables = All-weaker (λ (t : Term). t.0 < count) (λ (t : Term). suc t.0 < 2 ^ 32) (λ t below. omega (arith, below, le)) form.terms h.1;
  coefficients = h.0.coefficients;
  constant = h.0.constant;
}

pub facts_are_small : FactsAreSmall
facts_are_small ty design relation accepted k = all_every HasSmallNumbers (forms_of ty design relation k) (each_small ty design relation accepted k)

pub facts_ascend : FactsAscend
facts_ascend ty design relation accepted k = all_every IsAscending (forms_of ty design relation k) (each_ascends ty design relation accepted k)

pub variables_are_few : VariablesAreFew
variables_are_few ty design relation accepted k = all_every (HasVariablesBelow (slots_for relation)) (forms_of ty design relation k) (each_below ty design relation accepted k)

pub facts_are_sized : FactsAreSized
facts_are_sized ty design relation accepted few k =
    let forms = forms_of ty design relation k in
    let below = HasVariablesBelow (slots_for relation) in
    all_every IsSized forms
    (every_weaker (λ form. HasSmallNumbers form × below form) IsSized forms (λ form h. is_sized (slots_for relation) form (few_slots relation few) h)
    (every_two HasSmallNumbers below forms (each_small ty design relation accepted k) (each_below ty design relation accepted k)))

pub facts_are_fit : FactsAreFit
facts_are_fit ty design relation accepted few k =
    sized_facts_are_fit (facts_of_condition ty design relation k) (facts_are_sized ty design relation accepted few k) (facts_ascend ty design relation accepted k)

pub facts_are_walkable : FactsAreWalkable
facts_are_walkable ty design relation accepted few k short =
    sized_facts_are_walkable (facts_of_condition ty design relation k) (facts_are_sized ty design relation accepted few k) (facts_ascend ty design relation accepted k) short

pub what_is_read_is_accepted : WhatIsReadIsAccepted
what_is_read_is_accepted text ty design relation read faultless signature fits = record {
  sorted = file_sorted text ty read;
  limits = file_limited text ty read;
  named = file_named text ty read;
  ranks = file_ranks text ty read;
  right = well_sorted design faultless;
  signature = signature;
  conjuncts = fits;
}
