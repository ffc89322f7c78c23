-- What a conjunct claims is read as whether it holds.
use Rattle.std.proofs.Common.{◌≡◌, ℕ, zero, suc, pos, int_lt, Bool, true, false, ◌&&◌, if◌then◌else◌, List, [], ◌∷◌, Option, Some, None, refl, ap, ◌∙◌, map}
use Rattle.std.specs.Prelude.{slice_get}
use Rattle.std.specs.Option.{option_flatten}
use Rattle.kat_num.specs.declared.values.Sort.{Sort}
use Rattle.kat_num.specs.declared.values.Value.{Value}
use Rattle.kat_num.specs.declared.values.Value.TheVariants as value
use Rattle.kat_expr.specs.Slots.{argument}
use Rattle.kat_type.specs.Ranks.{value_cmp}
use Rattle.kat_type.specs.Types.{TypeForm}
use Rattle.kat_design.specs.Kinds.{is_kind, value_kind}
use Rattle.kat_design.specs.declared.kinds.Kind.{Kind}
use Rattle.kat_design.specs.declared.kinds.Kind.TheVariants as kind
use Rattle.kat_relation.specs.Fits.{position_kind, rank_kinds, same_keys, same_kind}
use Rattle.kat_relation.specs.declared.relations.LeafRef.{LeafRef}
use Rattle.kat_claims.specs.Claims.{elements_read, place_of_ref}
use Rattle.kat_symbols.specs.Readers.{Reader, Symbol}
use Rattle.kat_symbols.specs.Readers.Symbol.{number, truth}
use Rattle.kat_symbols.specs.Sides.{Side}
use Rattle.kat_symbols.specs.Sums.{numeral}
use Rattle.kat_symbols.specs.Symbols.{as_number}
use Rattle.kat_symbols.specs.declared.names.Instance.{Instance}
use Rattle.kat_invariant.specs.Relations.{as_element}
use Rattle.kat_invariant.specs.Situations.{Last}
use Rattle.kat_invariant.proofs.Answering.{kind_number}
use Rattle.kat_invariant.proofs.Comparing.{MeanAll, Orders, int_equals, int_less, nat_equals, nat_less, value_lt, value_same}
use Rattle.kat_invariant.proofs.Having.{ReadsNumber, ReadsValue, numeral_has}
use Rattle.kat_invariant.proofs.Logic.{World, Meant, measure, HasNumber, Means, Reads, stays, reads_as, reads_choice_with, reads_two}
use Rattle.kat_invariant.proofs.Saying.{int_same}
use Rattle.kat_invariant.proofs.Spots.{sorts_same}

pub both_hold : (a b : Bool) → (a && b) ≡ true → (a ≡ true) × (b ≡ true)
both_hold true b e = (refl, e)
both_hold false b e = absurd (cc)

pub kinds_same : (a b : Kind) → is_kind a b ≡ true → a ≡ b
kinds_same kind.Number kind.Number e = refl
kinds_same kind.Name kind.Name e = refl
kinds_same kind.Truth kind.Truth e = refl
kinds_same kind.Number kind.Name e = absurd (cc)
kinds_same kind.Number kind.Truth e = absurd (cc)
kinds_same kind.Name kind.Number e = absurd (cc)
kinds_same kind.Name kind.Truth e = absurd (cc)
kinds_same kind.Truth kind.Number e = absurd (cc)
kinds_same kind.Truth kind.Name e = absurd (cc)

-- two kinds that are there and the same
pub record AreOne (a b : Option Kind) : Type 0 where
  pub kind : Kind
  pub left : a ≡ Some kind
  pub right : b ≡ Some kind

pub same_kinds : (a b : Option Kind) → same_kind a b ≡ true → AreOne a b
same_kinds (Some a) (Some b) e = record { kind = b; left = ap Some (kinds_same a b e); right = refl }
same_kinds None b e = absurd (cc)
same_kinds (Some a) None e = absurd (cc)

pub keys_are_same : (a b : Option Sort) → same_keys a b ≡ true → a ≡ b
keys_are_same None None e = refl
keys_are_same (Some a) (Some b) e = ap Some (sorts_same a b e)
keys_are_same None (Some b) e = absurd (cc)
keys_are_same (Some a) None e = absurd (cc)

-- the kinds of the elements of the last rank are those of the type's ranks
abbrev pub some_kind : Value → Option Kind
some_kind v = Some (value_kind v)

abbrev pub RanksFit : TypeForm → Option Last → Type 0
RanksFit ty None = Unit {0}
RanksFit ty (Some last) = map some_kind last.rank ≡ rank_kinds ty.ops

some_one : (a b : Kind) → ◌≡◌ {A = Option Kind} (Some a) (Some b) → a ≡ b
some_one a b e = cc

position_value : (rank : List Value) (position : ℕ) (k : Kind) → option_flatten (slice_get (map some_kind rank) position) ≡ Some k → value_kind (argument rank position) ≡ k
position_value [] position k e = absurd (cc)
position_value (v ∷ rank) zero k e = some_one (value_kind v) k e
position_value (v ∷ rank) (suc position) k e = position_value rank position k e

pub element_has_kind : (ty : TypeForm) (last : Last) (position : ℕ) (k : Kind) → RanksFit ty (Some last) → position_kind ty position ≡ Some k → value_kind (argument last.rank position) ≡ k
element_has_kind ty last position k fits e = position_value last.rank position k (ap (λ ks. option_flatten (slice_get ks position)) fits ∙ e)

-- a truth value as a number
pub as_number_reads : (m : Meant) (first r : Reader) (x : Symbol) (v : Value) (P : World → Type 0) → Reads m first r (λ w. Means x v w × P w) → Reads m first (as_number x r).1 (λ w. HasNumber (as_number x r).0 (measure (as_element v)) w × P w)
as_number_reads m first r (number a) (value.Num z) P h = reads_as m first r _ _ h (λ w p. (p.0.is, p.1))
as_number_reads m first r (number a) (value.Name n) P h = reads_as m first r _ _ h (λ w p. (p.0.is, p.1))
as_number_reads m first r (number a) (value.Bool b) P h = reads_as m first r _ _ h (λ w p. absurd p.0.is)
as_number_reads m first r (truth f) (value.Bool b) P h =
    reads_choice_with m first r f (numeral (pos 1)) (numeral (pos 0)) b (pos 1) (pos 0) P
    (reads_as m first r _ _ h (λ w p. (record { test = p.0.is; left = numeral_has w (pos 1); right = numeral_has w (pos 0) }, p.1)))
as_number_reads m first r (truth f) (value.Num z) P h = reads_as m first (as_number (truth f) r).1 _ _
    (reads_choice_with m first r f (numeral (pos 1)) (numeral (pos 0)) true (pos 1) (pos 0) (λ w. ⊥) (reads_as m first r _ _ h (λ w p. absurd p.0.is))) (λ w p. absurd p.1)
as_number_reads m first r (truth f) (value.Name z) P h = reads_as m first (as_number (truth f) r).1 _ _
    (reads_choice_with m first r f (numeral (pos 1)) (numeral (pos 0)) true (pos 1) (pos 0) (λ w. ⊥) (reads_as m first r _ _ h (λ w p. absurd p.0.is))) (λ w p. absurd p.1)

-- a number of an element and of a leaf, one pair for each leaf
abbrev pub element_pairs : (ℕ → Value) → (LeafRef → Value) → ℕ → List LeafRef → List (Value × Value)
element_pairs elements leaves position [] = []
element_pairs elements leaves position (ref ∷ refs) = (value.Num (measure (elements position)), value.Num (measure (as_element (leaves ref)))) ∷ element_pairs elements leaves (suc position) refs

-- all leaves are there
abbrev pub ReadsRefs : Meant → Side → Option Instance → (LeafRef → Value) → List LeafRef → Type 0
ReadsRefs m side at leaves [] = Unit {0}
ReadsRefs m side at leaves (ref ∷ refs) = ReadsValue m (side.value (place_of_ref ref) at) (leaves ref) × ReadsRefs m side at leaves refs

pub elements_reads : (m : Meant) (side : Side) (at : Option Instance) (elements : ℕ → Value) (leaves : LeafRef → Value) → ((j : ℕ) → ReadsNumber m (side.element j) (measure (elements j))) → (position : ℕ) (refs : List LeafRef)
    → ReadsRefs m side at leaves refs → (r : Reader) → Reads m r (elements_read side at position refs r).1 (MeanAll (elements_read side at position refs r).0 (element_pairs elements leaves position refs))
elements_reads m side at elements leaves h position [] is r = stays m r _ (λ w f. tt)
elements_reads m side at elements leaves h position (ref ∷ refs) is r =
    let e = side.element position r in let x = side.value (place_of_ref ref) at e.1 in let y = as_number x.0 x.1 in
    let rest = elements_read side at (suc position) refs y.1 in
    reads_two m r y.1 rest.1 (λ w. HasNumber y.0 (measure (as_element (leaves ref))) w × HasNumber e.0 (measure (elements position)) w) (MeanAll rest.0 (element_pairs elements leaves (suc position) refs)) _
    (as_number_reads m r x.1 x.0 (leaves ref) (HasNumber e.0 (measure (elements position)))
    (reads_two m r e.1 x.1 (HasNumber e.0 (measure (elements position))) (Means x.0 (leaves ref)) _ (h position r) (is.0 e.1) (λ w p q. (q, p))))
    (elements_reads m side at elements leaves h (suc position) refs is.1 y.1)
    (λ w p q. (record { is = p.1 }, record { is = p.0 }, q))

-- two values of one kind, the second no truth value, compare by their numbers
pub by_numbers : (u v : Value) → value_kind u ≡ value_kind (as_element v) → Orders value_cmp u (as_element v) × (value_lt u (as_element v) ≡ int_lt (measure u) (measure (as_element v))) × (value_same u (as_element v) ≡ int_same (measure u) (measure (as_element v)))
by_numbers (value.Num x) (value.Num y) e = (record { less = int_less x y; equal = int_equals x y }, refl, refl)
by_numbers (value.Num x) (value.Bool b) e = let y = if b then pos 1 else pos 0 in (record { less = int_less x y; equal = int_equals x y }, refl, refl)
by_numbers (value.Name x) (value.Name y) e = (record { less = nat_less x y; equal = nat_equals x y }, refl, refl)
by_numbers (value.Num x) (value.Name y) e = let is : ◌≡◌ {A = ℕ} 0 1 = ap kind_number e in absurd (cc)
by_numbers (value.Name x) (value.Num y) e = let is : ◌≡◌ {A = ℕ} 1 0 = ap kind_number e in absurd (cc)
by_numbers (value.Name x) (value.Bool y) e = let is : ◌≡◌ {A = ℕ} 1 0 = ap kind_number e in absurd (cc)
by_numbers (value.Bool b) (value.Num y) e = let is : ◌≡◌ {A = ℕ} 2 0 = ap kind_number e in absurd (cc)
by_numbers (value.Bool b) (value.Name y) e = let is : ◌≡◌ {A = ℕ} 2 1 = ap kind_number e in absurd (cc)
by_numbers (value.Bool b) (value.Bool y) e = let is : ◌≡◌ {A = ℕ} 2 0 = ap kind_number e in absurd (cc)
