-- The type's expressions, if they are well-sorted, are read as what they are.
use Rattle.std.proofs.Common.{◌≡◌, ℕ, int_lt, ◌⊎◌, inl, inr, ⊎_elim, List, Option, Some, None, refl, sym, ap, ◌∙◌}
use Rattle.std.specs.Prelude.{MatchOption, slice_get}
use Rattle.kat_num.specs.Values.{HasSort}
use Rattle.kat_num.specs.declared.values.Sort.{Sort}
use Rattle.kat_num.specs.declared.values.Value.{Value}
use Rattle.kat_num.specs.declared.values.Sort.TheVariants.{Bool as OfBool, Int as OfInt, Nat as OfNat, Name as OfName}
use Rattle.kat_expr.specs.declared.expressions.Slot.{Slot as KeptSlot}
use Rattle.kat_expr.specs.Evaluation.{truth_of, value_of}
use Rattle.kat_expr.specs.Slots.{argument, read_plain, read_table, slot_at}
use Rattle.kat_expr.specs.Sorts.{Accepts, AcceptsField, AcceptsTable, FitsScope, FitsSort, IsChosen, Kept as KeptSort, Scope}
use Rattle.kat_expr.specs.Sorts.Kept.{one, each}
use Rattle.kat_expr.specs.Terms.{Term}
use Rattle.kat_expr.specs.Terms.Term.{constant, field, entry, parameter, negation, both, either, less, at_most, same, sum, difference, greater, lesser, choice}
use Rattle.kat_expr.proofs.Sorted.{value_has_sort}
use Rattle.kat_symbols.specs.Connectives.{fact_lt}
use Rattle.kat_symbols.specs.Readers.{Reader, read_flag, read_name}
use Rattle.kat_symbols.specs.Sides.{Side, given}
use Rattle.kat_symbols.specs.Symbols.{symbol_of}
use Rattle.kat_symbols.specs.Terms.{number_kept, truth_kept, number_read, truth_read}
use Rattle.kat_symbols.specs.declared.names.Instance.{Instance}
use Rattle.kat_symbols.specs.declared.names.Name.TheVariants.{Key}
use Rattle.kat_symbols.specs.declared.names.Place.{Place}
use Rattle.kat_symbols.specs.declared.names.Place.TheVariants.{Field}
use Rattle.kat_invariant.proofs.Logic.{World, Meant, measure, HasNumber, HasTruth, Reads, stays, reads_two, reads_as, reads_name, reads_flag, reads_choice}
use Rattle.kat_invariant.proofs.Having.{IsNumber, IsTruth, chosen_is, truth_is_truth, means_number, means_truth, symbol_has, ReadsNumber, ReadsTruth, ReadsValue, numbers_then as two_numbers, truths_then as two_truths, plus_has, minus_has, lt_has, le_has, same_has, and_has, or_has, not_has}
use Rattle.kat_invariant.proofs.Measures.{Comparable, less_is, same_is, at_most_is, number_measure, natural_integer, measure_if, chosen_compare, greater_is, lesser_is}

-- what is there if something is
pub opened : {A : Type 0} (o : Option A) (P : A → Type 0) → MatchOption o ⊥ P → (x : A) × (o ≡ Some x) × P x
opened None P h = absurd h
opened (Some x) P h = (x, refl, h)

-- a side reads the fields and tables of a scope, and the names of its parameters are the arguments
pub record ReadsScope (m : Meant) (side : Side) (at : Option Instance) (scope : Scope) (state : List KeptSlot) (args : List Value) : Type 0 where
  pub field : (f : ℕ) (s : Sort) → slice_get scope.fields f ≡ Some (one s) → ReadsValue m (side.value (Field f) None) (read_plain (slot_at state f))
  pub entry : (f j : ℕ) (key s : Sort) → slice_get scope.fields f ≡ Some (each key s) → slice_get scope.params j ≡ Some key → ReadsValue m (side.value (Field f) (Some (given at j))) (read_table (argument args j) (slot_at state f))
  pub param : (j : ℕ) (s : Sort) → slice_get scope.params j ≡ Some s → m.now (Key (given at j)) ≡ argument args j

pub kept_number : (m : Meant) (side : Side) (place : Place) (at : Option Instance) (v : Value) → IsNumber v → ReadsValue m (side.value place at) v → ReadsNumber m (number_kept side place at) (measure v)
kept_number m side place at v k h r = reads_as m r (side.value place at r).1 _ _ (h r) (λ w q. means_number w (side.value place at r).0 v k q)

pub kept_truth : (m : Meant) (side : Side) (place : Place) (at : Option Instance) (v : Value) → IsTruth v → ReadsValue m (side.value place at) v → ReadsTruth m (truth_kept side place at) (truth_of v)
kept_truth m side place at v k h r = reads_as m r (side.value place at r).1 _ _ (h r) (λ w q. means_truth w (side.value place at r).0 v k q)

module _ (m : Meant) (side : Side) (at : Option Instance) (scope : Scope) (state : List KeptSlot) (args : List Value) (fits : FitsScope scope state args) (reads : ReadsScope m side at scope state args) where
  abbrev the_value : Term → Value
  the_value x = value_of x state args

  abbrev IsReadNumber : Term → Type 0
  IsReadNumber x = ReadsNumber m (number_read side at x) (measure (the_value x))

  abbrev IsReadTruth : Term → Type 0
  IsReadTruth x = ReadsTruth m (truth_read side at x) (truth_of (the_value x))

  numbers_then : (a b : Term) (r : Reader) (R : World → Type 0) → IsReadNumber a → IsReadNumber b
      → ((w : World) → HasNumber (number_read side at a r).0 (measure (the_value a)) w → HasNumber (number_read side at b (number_read side at a r).1).0 (measure (the_value b)) w → R w)
      → Reads m r (number_read side at b (number_read side at a r).1).1 R
  numbers_then a b r R first second joined = two_numbers m (number_read side at a) (number_read side at b) _ _ r R first second joined

  truths_then : (a b : Term) (r : Reader) (R : World → Type 0) → IsReadTruth a → IsReadTruth b
      → ((w : World) → HasTruth (truth_read side at a r).0 (truth_of (the_value a)) w → HasTruth (truth_read side at b (truth_read side at a r).1).0 (truth_of (the_value b)) w → R w)
      → Reads m r (truth_read side at b (truth_read side at a r).1).1 R
  truths_then a b r R first second joined = two_truths m (truth_read side at a) (truth_read side at b) _ _ r R first second joined

  -- the values of two expressions of one sort
  sorts : (a : Term) (asked : Sort) → FitsSort scope a asked → HasSort asked (the_value a)
  sorts a asked h = value_has_sort scope state args fits a asked h

  compared : (a b : Term) → (FitsSort scope a OfInt × FitsSort scope b OfInt) ⊎ (FitsSort scope a OfName × FitsSort scope b OfName) → Comparable (the_value a) (the_value b)
  compared a b h = ⊎_elim (λ (k : FitsSort scope a OfInt × FitsSort scope b OfInt). inl (sorts a OfInt k.0, sorts b OfInt k.1)) (λ (k : FitsSort scope a OfName × FitsSort scope b OfName). inr (sorts a OfName k.0, sorts b OfName k.1)) h

  field_read : (f : ℕ) (asked : Sort) → FitsSort scope (field f) asked → ReadsValue m (side.value (Field f) None) (read_plain (slot_at state f))
  field_read f asked h = by_kept (opened (slice_get scope.fields f) (AcceptsField asked) h)
    where
      by_kept : (k : KeptSort) × (slice_get scope.fields f ≡ Some k) × AcceptsField asked k → ReadsValue m (side.value (Field f) None) (read_plain (slot_at state f))
      by_kept (one s, is, accepts) = reads.field f s is
      by_kept (each key s, is, accepts) = absurd accepts

  entry_read : (f j : ℕ) (asked : Sort) → FitsSort scope (entry f j) asked → ReadsValue m (side.value (Field f) (Some (given at j))) (read_table (argument args j) (slot_at state f))
  entry_read f j asked h = by_param (opened (slice_get scope.params j) (λ g. MatchOption (slice_get scope.fields f) ⊥ (AcceptsTable asked g)) h)
    where
      by_kept : (g : Sort) → slice_get scope.params j ≡ Some g → (k : KeptSort) × (slice_get scope.fields f ≡ Some k) × AcceptsTable asked g k → ReadsValue m (side.value (Field f) (Some (given at j))) (read_table (argument args j) (slot_at state f))
      by_kept g there (one s, is, accepts) = absurd accepts
      by_kept g there (each key s, is, accepts) = reads.entry f j key s is (there ∙ ap Some (sym accepts.0))

      by_param : (g : Sort) × (slice_get scope.params j ≡ Some g) × MatchOption (slice_get scope.fields f) ⊥ (AcceptsTable asked g) → ReadsValue m (side.value (Field f) (Some (given at j))) (read_table (argument args j) (slot_at state f))
      by_param (g, there, accepts) = by_kept g there (opened (slice_get scope.fields f) (AcceptsTable asked g) accepts)

  param_is : (j : ℕ) (asked : Sort) → FitsSort scope (parameter j) asked → m.now (Key (given at j)) ≡ argument args j
  param_is j asked h = let k = opened (slice_get scope.params j) (Accepts asked) h in reads.param j k.0 k.1

  sum_is : (a b : Term) → IsReadNumber a → IsReadNumber b → HasSort OfInt (the_value a) → HasSort OfInt (the_value b) → IsReadNumber (sum a b)
  sum_is a b p q h k r = numbers_then a b r _ p q (λ w x y. rw (number_measure (the_value a) h, number_measure (the_value b) k) (plus_has w (number_read side at a r).0 (number_read side at b (number_read side at a r).1).0 (measure (the_value a)) (measure (the_value b)) x y))

  difference_is : (a b : Term) → IsReadNumber a → IsReadNumber b → HasSort OfInt (the_value a) → HasSort OfInt (the_value b) → IsReadNumber (difference a b)
  difference_is a b p q h k r = numbers_then a b r _ p q (λ w x y. rw (number_measure (the_value a) h, number_measure (the_value b) k) (minus_has w (number_read side at a r).0 (number_read side at b (number_read side at a r).1).0 (measure (the_value a)) (measure (the_value b)) x y))

  greater_read : (a b : Term) → IsReadNumber a → IsReadNumber b → Comparable (the_value a) (the_value b) → IsReadNumber (greater a b)
  greater_read a b p q c r = reads_as m r (number_read side at (greater a b) r).1 _ _
      (reads_choice m r (number_read side at b (number_read side at a r).1).1 (fact_lt (number_read side at a r).0 (number_read side at b (number_read side at a r).1).0) _ _ (int_lt (measure (the_value a)) (measure (the_value b))) (measure (the_value b)) (measure (the_value a))
      (numbers_then a b r _ p q (λ w x y. record { test = lt_has w _ _ _ _ x y; left = y; right = x })))
      (λ w h. record { is = h.is ∙ sym (greater_is (the_value a) (the_value b) c) })

  lesser_read : (a b : Term) → IsReadNumber a → IsReadNumber b → Comparable (the_value a) (the_value b) → Comparable (the_value b) (the_value a) → IsReadNumber (lesser a b)
  lesser_read a b p q c d r = reads_as m r (number_read side at (lesser a b) r).1 _ _
      (reads_choice m r (number_read side at b (number_read side at a r).1).1 (fact_lt (number_read side at a r).0 (number_read side at b (number_read side at a r).1).0) _ _ (int_lt (measure (the_value a)) (measure (the_value b))) (measure (the_value a)) (measure (the_value b))
      (numbers_then a b r _ p q (λ w x y. record { test = lt_has w _ _ _ _ x y; left = x; right = y })))
      (λ w h. record { is = h.is ∙ sym (lesser_is (the_value a) (the_value b) c d) })

  choice_read : (c a b : Term) → IsReadTruth c → IsReadNumber a → IsReadNumber b → IsReadNumber (choice c a b)
  choice_read c a b o p q r =
      let z = truth_read side at c r in
      reads_as m r (number_read side at (choice c a b) r).1 _ _
      (reads_choice m r (number_read side at b (number_read side at a z.1).1).1 z.0 _ _ (truth_of (the_value c)) (measure (the_value a)) (measure (the_value b))
      (reads_two m r z.1 (number_read side at b (number_read side at a z.1).1).1 (HasTruth z.0 (truth_of (the_value c))) (λ w. HasNumber (number_read side at a z.1).0 (measure (the_value a)) w × HasNumber (number_read side at b (number_read side at a z.1).1).0 (measure (the_value b)) w) _
      (o r) (numbers_then a b z.1 _ p q (λ w x y. (x, y))) (λ w h k. record { test = h; left = k.0; right = k.1 })))
      (λ w h. record { is = h.is ∙ sym (measure_if (truth_of (the_value c)) (the_value a) (the_value b)) })

  mutual
    pub number_reads : (x : Term) (asked : Sort) → IsChosen asked → FitsSort scope x asked → IsReadNumber x
    number_reads (constant v) asked c h = λ r. stays m r _ (λ w f. means_number w (symbol_of v) v (chosen_is asked v c h) (symbol_has w v))
    number_reads (field f) asked c h = kept_number m side (Field f) None _ (chosen_is asked _ c (sorts (field f) asked h)) (field_read f asked h)
    number_reads (entry f j) asked c h = kept_number m side (Field f) (Some (given at j)) _ (chosen_is asked _ c (sorts (entry f j) asked h)) (entry_read f j asked h)
    number_reads (parameter j) asked c h = λ r. reads_as m r (read_name (Key (given at j)) r).1 _ _ (reads_name m (Key (given at j)) r) (λ w q. record { is = q.is ∙ ap measure (param_is j asked h) })
    number_reads (sum a b) OfInt c h = sum_is a b (number_reads a OfInt tt h.0) (number_reads b OfInt tt h.1) (sorts a OfInt h.0) (sorts b OfInt h.1)
    number_reads (sum a b) OfNat c h = sum_is a b (number_reads a OfNat tt h.0) (number_reads b OfNat tt h.1) (natural_integer (the_value a) (sorts a OfNat h.0)) (natural_integer (the_value b) (sorts b OfNat h.1))
    number_reads (difference a b) OfInt c h = difference_is a b (number_reads a OfInt tt h.0) (number_reads b OfInt tt h.1) (sorts a OfInt h.0) (sorts b OfInt h.1)
    number_reads (greater a b) asked c h = greater_read a b (number_reads a asked c h.1) (number_reads b asked c h.2) (chosen_compare asked (the_value a) (the_value b) c (sorts a asked h.1) (sorts b asked h.2))
    number_reads (lesser a b) asked c h = lesser_read a b (number_reads a asked c h.1) (number_reads b asked c h.2) (chosen_compare asked (the_value a) (the_value b) c (sorts a asked h.1) (sorts b asked h.2)) (chosen_compare asked (the_value b) (the_value a) c (sorts b asked h.2) (sorts a asked h.1))
    number_reads (choice d a b) asked c h = choice_read d a b (truth_reads d h.1) (number_reads a asked c h.2) (number_reads b asked c h.3)
    number_reads (negation _) OfBool c h = absurd c
    number_reads (both _ _) OfBool c h = absurd c
    number_reads (either _ _) OfBool c h = absurd c
    number_reads (less _ _) OfBool c h = absurd c
    number_reads (at_most _ _) OfBool c h = absurd c
    number_reads (same _ _) OfBool c h = absurd c
    number_reads (negation _) _ c h = absurd h
    number_reads (both _ _) _ c h = absurd h
    number_reads (either _ _) _ c h = absurd h
    number_reads (less _ _) _ c h = absurd h
    number_reads (at_most _ _) _ c h = absurd h
    number_reads (same _ _) _ c h = absurd h
    number_reads (sum _ _) _ c h = absurd h
    number_reads (difference _ _) _ c h = absurd h

    pub truth_reads : (x : Term) → FitsSort scope x OfBool → IsReadTruth x
    truth_reads (constant v) h = λ r. stays m r _ (λ w f. means_truth w (symbol_of v) v (truth_is_truth v h) (symbol_has w v))
    truth_reads (field f) h = kept_truth m side (Field f) None _ (truth_is_truth _ (sorts (field f) OfBool h)) (field_read f OfBool h)
    truth_reads (entry f j) h = kept_truth m side (Field f) (Some (given at j)) _ (truth_is_truth _ (sorts (entry f j) OfBool h)) (entry_read f j OfBool h)
    truth_reads (parameter j) h = λ r. reads_as m r (read_flag (Key (given at j)) r).1 _ _ (reads_flag m (Key (given at j)) r) (λ w q. record { is = q.is ∙ ap truth_of (param_is j OfBool h) })
    truth_reads (negation a) h = λ r. reads_as m r (truth_read side at a r).1 _ _ (truth_reads a h r) (λ w k. not_has w _ _ k)
    truth_reads (both a b) h = λ r. truths_then a b r _ (truth_reads a h.0) (truth_reads b h.1) (λ w p q. and_has w _ _ _ _ p q)
    truth_reads (either a b) h = λ r. truths_then a b r _ (truth_reads a h.0) (truth_reads b h.1) (λ w p q. or_has w _ _ _ _ p q)
    truth_reads (less a b) h = λ r. numbers_then a b r _ (⊎_elim (λ (k : FitsSort scope a OfInt × FitsSort scope b OfInt). number_reads a OfInt tt k.0) (λ (k : FitsSort scope a OfName × FitsSort scope b OfName). number_reads a OfName tt k.0) h) (⊎_elim (λ (k : FitsSort scope a OfInt × FitsSort scope b OfInt). number_reads b OfInt tt k.1) (λ (k : FitsSort scope a OfName × FitsSort scope b OfName). number_reads b OfName tt k.1) h) (λ w p q. record { is = (lt_has w _ _ _ _ p q).is ∙ sym (less_is (the_value a) (the_value b) (compared a b h)) })
    truth_reads (at_most a b) h = λ r. numbers_then a b r _ (⊎_elim (λ (k : FitsSort scope a OfInt × FitsSort scope b OfInt). number_reads a OfInt tt k.0) (λ (k : FitsSort scope a OfName × FitsSort scope b OfName). number_reads a OfName tt k.0) h) (⊎_elim (λ (k : FitsSort scope a OfInt × FitsSort scope b OfInt). number_reads b OfInt tt k.1) (λ (k : FitsSort scope a OfName × FitsSort scope b OfName). number_reads b OfName tt k.1) h) (λ w p q. record { is = (le_has w _ _ _ _ p q).is ∙ sym (at_most_is (the_value a) (the_value b) (compared a b h)) })
    truth_reads (same a b) h = λ r. numbers_then a b r _ (⊎_elim (λ (k : FitsSort scope a OfInt × FitsSort scope b OfInt). number_reads a OfInt tt k.0) (λ (k : FitsSort scope a OfName × FitsSort scope b OfName). number_reads a OfName tt k.0) h) (⊎_elim (λ (k : FitsSort scope a OfInt × FitsSort scope b OfInt). number_reads b OfInt tt k.1) (λ (k : FitsSort scope a OfName × FitsSort scope b OfName). number_reads b OfName tt k.1) h) (λ w p q. record { is = (same_has w _ _ _ _ p q).is ∙ sym (same_is (the_value a) (the_value b) (compared a b h)) })
    truth_reads (sum _ _) h = absurd h
    truth_reads (difference _ _) h = absurd h
    truth_reads (greater _ _) h = absurd h.0
    truth_reads (lesser _ _) h = absurd h.0
    truth_reads (choice _ _ _) h = absurd h.0
