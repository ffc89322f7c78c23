-- The design's asks, if they are well-sorted, are read as what they are.
use Rattle.std.proofs.Common.{◌≡◌, ℕ, List, Option, Some, option_map, refl, sym, ap, ◌∙◌}
use Rattle.std.specs.Prelude.{slice_get}
use Rattle.kat_num.specs.Values.{HasSort}
use Rattle.kat_num.specs.declared.values.Sort.{Sort}
use Rattle.kat_num.specs.declared.values.Value.{Value}
use Rattle.kat_expr.specs.Evaluation.{truth_of}
use Rattle.kat_expr.specs.Slots.{argument}
use Rattle.kat_design.specs.Designs.{AskForm, ComponentForm}
use Rattle.kat_design.specs.Designs.AskForm.{less, sum, difference}
use Rattle.kat_design.specs.Kinds.{component_kinds, key_sort, value_kind}
use Rattle.kat_design.specs.Sorted.{FitsKey, HasKind, IsParameter}
use Rattle.kat_design.specs.Sorted.HasKind.{read, given as is_given, written, denied as is_denied, and_of as is_and, or_of as is_or, numbers_less, names_less, sum_of, difference_of}
use Rattle.kat_design.specs.declared.kinds.Kind.{Kind}
use Rattle.kat_design.specs.declared.kinds.Kind.TheVariants as kind
use Rattle.kat_claims.specs.Asks.{number_asked, truth_asked}
use Rattle.kat_symbols.specs.Readers.{read_flag, read_name}
use Rattle.kat_symbols.specs.Sides.{Side, given}
use Rattle.kat_symbols.specs.Symbols.{symbol_of}
use Rattle.kat_symbols.specs.declared.names.Instance.{Instance}
use Rattle.kat_symbols.specs.declared.names.Name.TheVariants.{Key}
use Rattle.kat_symbols.specs.declared.names.Place.TheVariants.{Leaf}
use Rattle.kat_invariant.specs.Asked.{ask_held, key_given}
use Rattle.kat_invariant.specs.Situations.{Held, leaf_in}
use Rattle.kat_invariant.proofs.Logic.{Meant, measure, stays, reads_as, reads_name, reads_flag}
use Rattle.kat_invariant.proofs.Having.{means_number, means_truth, symbol_has, ReadsNumber, ReadsTruth, ReadsValue, numbers_then, truths_then, plus_has, minus_has, lt_has, and_has, or_has, not_has}
use Rattle.kat_invariant.proofs.LeafKinds.{IsOrderedKind, kind_code, kind_integer, kind_truth, ordered_number, sort_has_kind, two_names, two_numbers}
use Rattle.kat_invariant.proofs.Measures.{Comparable, less_is, number_measure}
use Rattle.kat_invariant.proofs.Terms.{kept_number, kept_truth}

-- a side reads the leaves of components, which have their kinds, and the names of parameters are the arguments
pub record ReadsLeaves (m : Meant) (side : Side) (at : Option Instance) (components : List ComponentForm) (sorts : List Sort) (held : ℕ → Value → Held) (args : List Value) : Type 0 where
  pub leaf : (c l : ℕ) (key : Option ℕ) (component : ComponentForm) (k : Kind) → slice_get components c ≡ Some component → slice_get (component_kinds component) l ≡ Some k → FitsKey sorts (key_sort component) key
      → ReadsValue m (side.value (Leaf c l) (option_map (given at) key)) (leaf_in (held c (key_given key args)) l)
  pub kind_is : (c l : ℕ) (key : Option ℕ) (component : ComponentForm) (k : Kind) → slice_get components c ≡ Some component → slice_get (component_kinds component) l ≡ Some k → FitsKey sorts (key_sort component) key
      → value_kind (leaf_in (held c (key_given key args)) l) ≡ k
  pub param : (j : ℕ) (s : Sort) → IsParameter sorts j s → m.now (Key (given at j)) ≡ argument args j
  pub sorts_are : (j : ℕ) (s : Sort) → IsParameter sorts j s → HasSort s (argument args j)

module _ (m : Meant) (side : Side) (at : Option Instance) (components : List ComponentForm) (sorts : List Sort) (held : ℕ → Value → Held) (args : List Value) (reads : ReadsLeaves m side at components sorts held args) where
  abbrev the_value : AskForm → Value
  the_value a = ask_held a held args

  pub ask_has_kind : (a : AskForm) (k : Kind) → HasKind components sorts a k → value_kind (the_value a) ≡ k
  ask_has_kind a k (read c l key component j there found fits) = reads.kind_is c l key component k there found fits
  ask_has_kind a k (is_given j s is) = sort_has_kind s (argument args j) (reads.sorts_are j s is)
  ask_has_kind a k (written v is) = refl
  ask_has_kind a k (is_denied h) = refl
  ask_has_kind a k (is_and h i) = refl
  ask_has_kind a k (is_or h i) = refl
  ask_has_kind a k (numbers_less h i) = refl
  ask_has_kind a k (names_less h i) = refl
  ask_has_kind a k (sum_of h i) = refl
  ask_has_kind a k (difference_of h i) = refl

  abbrev IsReadNumber : AskForm → Type 0
  IsReadNumber a = ReadsNumber m (number_asked side at a) (measure (the_value a))

  abbrev IsReadTruth : AskForm → Type 0
  IsReadTruth a = ReadsTruth m (truth_asked side at a) (truth_of (the_value a))

  sum_is : (a b : AskForm) → HasKind components sorts a kind.Number → HasKind components sorts b kind.Number → IsReadNumber a → IsReadNumber b → IsReadNumber (sum a b)
  sum_is a b h k p q r = numbers_then m (number_asked side at a) (number_asked side at b) _ _ r _ p q
      (λ w x y. rw (number_measure (the_value a) (kind_integer (the_value a) kind.Number (ask_has_kind a kind.Number h) refl), number_measure (the_value b) (kind_integer (the_value b) kind.Number (ask_has_kind b kind.Number k) refl)) (plus_has w _ _ (measure (the_value a)) (measure (the_value b)) x y))

  difference_is : (a b : AskForm) → HasKind components sorts a kind.Number → HasKind components sorts b kind.Number → IsReadNumber a → IsReadNumber b → IsReadNumber (difference a b)
  difference_is a b h k p q r = numbers_then m (number_asked side at a) (number_asked side at b) _ _ r _ p q
      (λ w x y. rw (number_measure (the_value a) (kind_integer (the_value a) kind.Number (ask_has_kind a kind.Number h) refl), number_measure (the_value b) (kind_integer (the_value b) kind.Number (ask_has_kind b kind.Number k) refl)) (minus_has w _ _ (measure (the_value a)) (measure (the_value b)) x y))

  less_is_read : (a b : AskForm) → Comparable (the_value a) (the_value b) → IsReadNumber a → IsReadNumber b → IsReadTruth (less a b)
  less_is_read a b c p q r = numbers_then m (number_asked side at a) (number_asked side at b) _ _ r _ p q
      (λ w x y. record { is = (lt_has w _ _ _ _ x y).is ∙ sym (less_is (the_value a) (the_value b) c) })

  pub number_is_asked : (a : AskForm) (k : Kind) → HasKind components sorts a k → IsOrderedKind k → IsReadNumber a
  number_is_asked a k (read c l key component j there found fits) o = kept_number m side (Leaf c l) (option_map (given at) key) _ (ordered_number _ k (reads.kind_is c l key component k there found fits) o) (reads.leaf c l key component k there found fits)
  number_is_asked a k (is_given j s is) o = λ r. reads_as m r (read_name (Key (given at j)) r).1 _ _ (reads_name m (Key (given at j)) r) (λ w q. record { is = q.is ∙ ap measure (reads.param j s is) })
  number_is_asked a k (written v is) o = λ r. stays m r _ (λ w f. means_number w (symbol_of v) v (ordered_number v k refl o) (symbol_has w v))
  number_is_asked a k (is_denied h) o = absurd o
  number_is_asked a k (is_and h i) o = absurd o
  number_is_asked a k (is_or h i) o = absurd o
  number_is_asked a k (numbers_less h i) o = absurd o
  number_is_asked a k (names_less h i) o = absurd o
  number_is_asked x k (sum_of {a = a} {b = b} h i) o = sum_is a b h i (number_is_asked a kind.Number h tt) (number_is_asked b kind.Number i tt)
  number_is_asked x k (difference_of {a = a} {b = b} h i) o = difference_is a b h i (number_is_asked a kind.Number h tt) (number_is_asked b kind.Number i tt)

  pub truth_is_asked : (a : AskForm) (k : Kind) → HasKind components sorts a k → k ≡ kind.Truth → IsReadTruth a
  truth_is_asked a k (read c l key component j there found fits) o = kept_truth m side (Leaf c l) (option_map (given at) key) _ (kind_truth _ k (reads.kind_is c l key component k there found fits) o) (reads.leaf c l key component k there found fits)
  truth_is_asked a k (is_given j s is) o = λ r. reads_as m r (read_flag (Key (given at j)) r).1 _ _ (reads_flag m (Key (given at j)) r) (λ w q. record { is = q.is ∙ ap truth_of (reads.param j s is) })
  truth_is_asked a k (written v is) o = λ r. stays m r _ (λ w f. means_truth w (symbol_of v) v (kind_truth v k refl o) (symbol_has w v))
  truth_is_asked x k (is_denied {a = a} h) o = λ r. reads_as m r (truth_asked side at a r).1 _ _ (truth_is_asked a kind.Truth h refl r) (λ w q. not_has w _ _ q)
  truth_is_asked x k (is_and {a = a} {b = b} h i) o = λ r. truths_then m (truth_asked side at a) (truth_asked side at b) _ _ r _ (truth_is_asked a kind.Truth h refl) (truth_is_asked b kind.Truth i refl) (λ w p q. and_has w _ _ _ _ p q)
  truth_is_asked x k (is_or {a = a} {b = b} h i) o = λ r. truths_then m (truth_asked side at a) (truth_asked side at b) _ _ r _ (truth_is_asked a kind.Truth h refl) (truth_is_asked b kind.Truth i refl) (λ w p q. or_has w _ _ _ _ p q)
  truth_is_asked x k (numbers_less {a = a} {b = b} h i) o = less_is_read a b (two_numbers _ _ (ask_has_kind a kind.Number h) (ask_has_kind b kind.Number i)) (number_is_asked a kind.Number h tt) (number_is_asked b kind.Number i tt)
  truth_is_asked x k (names_less {a = a} {b = b} h i) o = less_is_read a b (two_names _ _ (ask_has_kind a kind.Name h) (ask_has_kind b kind.Name i)) (number_is_asked a kind.Name h tt) (number_is_asked b kind.Name i tt)
  truth_is_asked x k (sum_of h i) o = absurd (let is : ◌≡◌ {A = ℕ} 0 2 = ap kind_code o in cc)
  truth_is_asked x k (difference_of h i) o = absurd (let is : ◌≡◌ {A = ℕ} 0 2 = ap kind_code o in cc)
