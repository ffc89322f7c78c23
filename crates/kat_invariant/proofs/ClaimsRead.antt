-- Each of the six conjuncts is read as whether it holds.
use Rattle.std.proofs.Common.{◌≡◌, ℕ, zero, suc, ◌+◌, pos, int_lt, int_le, Bool, true, false, not, ◌&&◌, ◌||◌, nat_eq, List, [], ◌∷◌, length, take, drop, Option, Some, None, option_map, refl, sym, ap, subst, ◌∙◌, map, arith}
use Rattle.std.specs.Prelude.{nat_lt, slice_get}
use Rattle.std.specs.Cmp.Lexicographic.{slice_cmp}
use Rattle.std.specs.Ordering.{is_eq, is_lt, ordering_then}
use Rattle.std.specs.declared.cmp.Ordering.{Ordering}
use Rattle.std.specs.declared.cmp.Ordering.TheVariants.{Less, Equal as Level, Greater}
use Rattle.std.proofs.lemmas.Bool.{eqb-true}
use Rattle.std.proofs.lemmas.Bool.Decides.{Decides-eqb}
use Rattle.std.proofs.lemmas.List.{drop-map}
use Rattle.kat_form.specs.Facts.{Fact, listed}
use Rattle.kat_form.specs.Facts.Fact.{any_of}
use Rattle.std.proofs.lemmas.Option.{get_or_from_slice_get, slice_get-map}
use Rattle.kat_num.specs.declared.values.Sort.{Sort}
use Rattle.kat_num.specs.declared.values.Value.{Value}
use Rattle.kat_num.specs.declared.values.Value.TheVariants as value
use Rattle.kat_expr.specs.Evaluation.{number_of, truth_of, value_of}
use Rattle.kat_expr.specs.Slots.{absent, argument, read_plain, read_table, slot_at}
use Rattle.kat_expr.specs.Sorts.{FitsKept}
use Rattle.kat_expr.specs.Sorts.Kept.{one, each}
use Rattle.kat_expr.specs.declared.expressions.Slot.{Slot}
use Rattle.kat_expr.specs.declared.expressions.Slot.TheVariants.{Plain, Keyed}
use Rattle.kat_type.specs.Fits.{IsWellSorted as IsGoodType, kept_of}
use Rattle.kat_type.specs.Ranks.{value_cmp}
use Rattle.kat_type.specs.Signatures.{signature_of}
use Rattle.kat_type.specs.Types.{QueryForm, TypeForm}
use Rattle.kat_type.specs.declared.types.Field.{Field as TypeField}
use Rattle.kat_type.specs.declared.types.Field.TheVariants as field
use Rattle.kat_seq.specs.Sorts.{KeepsFields}
use Rattle.kat_seq.specs.States.{query_at}
use Rattle.kat_design.specs.Answers.{ask_at}
use Rattle.kat_design.specs.Designs.{ComponentForm, DesignForm}
use Rattle.kat_design.specs.Designs.ComponentForm.{a_cell, a_table, a_set, a_tally, tallies}
use Rattle.kat_design.specs.Kinds.{component_kinds, leaf_kind, sort_kind, value_kind}
use Rattle.kat_design.specs.Sorted.{IsWellSorted}
use Rattle.kat_type.specs.Unions.{is_same_value}
use Rattle.kat_design.specs.declared.kinds.Kind.{Kind}
use Rattle.kat_design.specs.declared.kinds.Kind.TheVariants as kind
use Rattle.kat_relation.specs.Fits.{FitsConjunct, are_apart, are_of, as_ranked, conjunct_fits, digit_fits, field_kind, has_rising_leaves, has_sums, is_ordered, match_elements, position_kind, query_fits, rank_kinds, ref_kind, same_keys, same_kind}
use Rattle.kat_relation.specs.Keys.{component_key, conjunct_key, field_key, query_key}
use Rattle.kat_relation.specs.declared.relations.Conjunct.{Conjunct}
use Rattle.kat_relation.specs.declared.relations.Conjunct.TheVariants.{Query, Equal, Bounded, AtLeast, Matched, Total}
use Rattle.kat_relation.specs.declared.relations.LeafRef.{LeafRef}
use Rattle.kat_claims.specs.Claims.{claim_read, elements_read, place_of_ref}
use Rattle.kat_symbols.specs.Sides.{Side}
use Rattle.kat_symbols.specs.Symbols.{number_in, truth_in}
use Rattle.kat_symbols.specs.declared.names.Instance.{Instance}
use Rattle.kat_symbols.specs.declared.names.Name.TheVariants.{Key}
use Rattle.kat_symbols.specs.declared.names.Place.TheVariants.{Field, Leaf}
use Rattle.kat_invariant.specs.Asked.{ask_held}
use Rattle.kat_invariant.specs.Legal.{HoldsParts}
use Rattle.kat_invariant.specs.Relations.{are_bounded, as_element, holds_at, is_at_least, is_matched, leaf_at}
use Rattle.kat_invariant.specs.Situations.{Held, Last, Situation, leaf_in, slot_value}
use Rattle.kat_invariant.specs.Situations.Held.{cell, member, total}
use Rattle.kat_invariant.specs.Legal.{FitsHeld}
use Rattle.kat_invariant.proofs.Answering.{answers_are, key_arguments, kind_number, numbers_same, query_asked, query_good, truths_same}
use Rattle.kat_invariant.proofs.Comparing.{MeanAll, equal_has, less_has, value_same, values_lt}
use Rattle.kat_invariant.proofs.Having.{IsNumber, ReadsTruth, ReadsValue, and_has, le_has, not_has, numeral_has, or_has, same_has, truth_as}
use Rattle.kat_invariant.proofs.LeafKinds.{IsOrderedKind, kind_truth, leaf_has_kind, ordered_number, sort_has_kind}
use Rattle.kat_invariant.proofs.Logic.{World, Meant, measure, HasNumber, HasTruth, Reads, reads_as, reads_two}
use Rattle.kat_invariant.proofs.Saying.{int_same}
use Rattle.kat_invariant.proofs.Situated.{IsKeyAt, IsLeaf, IsSide, element_of, is_begun, key_at}
use Rattle.kat_invariant.proofs.Spots.{plain_has_sort, table_has_sort}
use Rattle.kat_invariant.proofs.Terms.{kept_number, kept_truth}
use Rattle.kat_invariant.proofs.Claims.{RanksFit, ReadsRefs, both_hold, by_numbers, element_has_kind, element_pairs, elements_reads, keys_are_same, same_kinds, some_kind}

some_same : (a b : Kind) → ◌≡◌ {A = Option Kind} (Some a) (Some b) → a ≡ b
some_same a b e = cc

as_number_of : (v : Value) → value_kind v ≡ kind.Number → measure v ≡ number_of v
as_number_of (value.Num z) e = refl
as_number_of (value.Bool z) e = let is : ◌≡◌ {A = ℕ} 2 0 = ap kind_number e in absurd (cc)
as_number_of (value.Name z) e = let is : ◌≡◌ {A = ℕ} 1 0 = ap kind_number e in absurd (cc)

ordered_kind : (k : Kind) → is_ordered (Some k) ≡ true → IsOrderedKind k
ordered_kind kind.Number e = tt
ordered_kind kind.Name e = tt
ordered_kind kind.Truth e = absurd (cc)

first_of_all : (n : ℕ) (b : Bool) → b ≡ true → (nat_eq n n && b) ≡ true
first_of_all n b e = let itself : nat_eq n n ≡ true = (Decides-eqb n n).1 refl in rw (itself, e) refl

then_less : (o u : Ordering) → is_lt (ordering_then o u) ≡ (is_lt o || (is_eq o && is_lt u))
then_less Less u = refl
then_less Level u = refl
then_less Greater u = refl

-- pairs of a rank's elements and leaves compare as the lists do
ranked_kind : (v : Value) (k : Kind) → value_kind v ≡ k → value_kind (as_element v) ≡ as_ranked k
ranked_kind (value.Bool b) k e = subst (λ j. kind.Number ≡ as_ranked j) e refl
ranked_kind (value.Num z) k e = subst (λ j. kind.Number ≡ as_ranked j) e refl
ranked_kind (value.Name n) k e = subst (λ j. kind.Name ≡ as_ranked j) e refl

abbrev LeavesHaveKinds : List ComponentForm → (LeafRef → Value) → List LeafRef → Type 0
LeavesHaveKinds components leaves [] = Unit {0}
LeavesHaveKinds components leaves (ref ∷ refs) = ((k : Kind) → ref_kind components ref ≡ Some k → value_kind (leaves ref) ≡ k) × LeavesHaveKinds components leaves refs

mapped_kind : (o : Option Kind) (k : Kind) → option_map as_ranked o ≡ Some k → (j : Kind) × (o ≡ Some j) × (as_ranked j ≡ k)
mapped_kind None k e = absurd (cc)
mapped_kind (Some j) k e = (j, refl, cc)

cmp_then : (u v : Value) (us vs : List Value) (b : Bool) → value_kind u ≡ value_kind (as_element v) → is_lt (slice_cmp value_cmp us vs) ≡ b
    → is_lt (slice_cmp value_cmp (u ∷ us) (as_element v ∷ vs)) ≡ (int_lt (measure u) (measure (as_element v)) || (int_same (measure u) (measure (as_element v)) && b))
cmp_then u v us vs b e rest =
    let by = by_numbers u v e in
    then_less (value_cmp u (as_element v)) (slice_cmp value_cmp us vs) ∙ rw (by.0.less, by.0.equal, by.1, by.2, rest) refl

pairs_compare : (components : List ComponentForm) (leaves : LeafRef → Value) (elements : ℕ → Value) (position : ℕ) (refs : List LeafRef) (rank : List Value) → ((i : ℕ) → elements (position + i) ≡ argument rank i) → LeavesHaveKinds components leaves refs
    → match_elements components refs (map some_kind rank) ≡ true
    → values_lt (element_pairs elements leaves position refs) ≡ is_lt (slice_cmp value_cmp (take (length (map leaves refs)) rank) (map as_element (map leaves refs)))
pairs_compare components leaves elements position [] rank at kinds fits = refl
pairs_compare components leaves elements position (ref ∷ refs) [] at kinds fits = absurd (cc)
pairs_compare components leaves elements position (ref ∷ refs) (u ∷ rank) at kinds fits =
    let both = both_hold (same_kind (option_map as_ranked (ref_kind components ref)) (some_kind u)) (match_elements components refs (map some_kind rank)) fits in
    let one = same_kinds (option_map as_ranked (ref_kind components ref)) (some_kind u) both.0 in
    let leaf = mapped_kind (ref_kind components ref) one.kind one.left in
    let here : elements position ≡ u = subst (λ n. elements n ≡ u) (omega arith) (at 0) in
    let kinds_agree : value_kind u ≡ value_kind (as_element (leaves ref)) = (let is : value_kind u ≡ one.kind = some_same (value_kind u) one.kind one.right in is) ∙ sym (ranked_kind (leaves ref) leaf.0 (kinds.0 leaf.0 leaf.1) ∙ leaf.2) in
    let rest = pairs_compare components leaves elements (suc position) refs rank (λ i. subst (λ n. elements n ≡ argument rank i) (omega arith) (at (suc i))) kinds.1 both.1 in
    ap (λ v. int_lt (measure v) (measure (as_element (leaves ref))) || (int_same (measure v) (measure (as_element (leaves ref))) && values_lt (element_pairs elements leaves (suc position) refs))) here
    ∙ sym (cmp_then u (leaves ref) (take (length (map leaves refs)) rank) (map as_element (map leaves refs)) (values_lt (element_pairs elements leaves (suc position) refs)) kinds_agree (sym rest))

dropped : (rank : List Value) (position i : ℕ) → argument rank (position + i) ≡ argument (drop position rank) i
dropped rank zero i = let same : zero + i ≡ i = omega arith in ap (argument rank) same
dropped [] (suc position) i = refl
dropped (v ∷ rank) (suc position) i = let same : suc position + i ≡ suc (position + i) = omega arith in ap (argument (v ∷ rank)) same ∙ dropped rank position i

all_three : (a b c e : Bool) → e ≡ ((a || b) || c) → (a || (b || (c || false))) ≡ e
all_three true b c e h = sym h
all_three false true c e h = sym h
all_three false false true e h = sym h
all_three false false false e h = sym h

module _ (ty : TypeForm) (d : DesignForm) (good : IsGoodType ty) (sorted : IsWellSorted d) (signed : d.sig ≡ signature_of ty)
    (m : Meant) (side : Side) (s : Situation) (keys : Instance → Value) (is : IsSide ty d m side s keys) (named : (i : Instance) → m.now (Key i) ≡ keys i)
    (keeps : KeepsFields ty s.state) (parts : HoldsParts d s.held) (ranks : RanksFit ty s.last) where
  abbrev KeyedRight : Option Instance → Conjunct → Type 0
  KeyedRight at c = IsKeyAt keys (conjunct_key ty d.components c) at

  abbrev IsClaim : Option Instance → Conjunct → Type 0
  IsClaim at c = ReadsTruth m (claim_read ty d side c at) (holds_at ty d s (key_at keys at) c)

  -- the leaves that a conjunct names
  leaf_there : (ref : LeafRef) (at : Option Instance) (k : Kind) → ref_kind d.components ref ≡ Some k → IsKeyAt keys (component_key (slice_get d.components ref.component)) at → IsLeaf d keys ref.component ref.leaf at
  leaf_there ref at k found fits = by_component (slice_get d.components ref.component) refl found fits
    where
      by_component : (o : Option ComponentForm) → slice_get d.components ref.component ≡ o → leaf_kind o ref.leaf ≡ Some k → IsKeyAt keys (component_key o) at → IsLeaf d keys ref.component ref.leaf at
      by_component None e f h = absurd (cc)
      by_component (Some component) e f h = record { component = component; kind = k; there = e; found = f; fits = h }

  leaf_value_kind : (ref : LeafRef) (key : Value) (k : Kind) → ref_kind d.components ref ≡ Some k → value_kind (leaf_at s key ref) ≡ k
  leaf_value_kind ref key k found = by_component (slice_get d.components ref.component) refl found
    where
      by_component : (o : Option ComponentForm) → slice_get d.components ref.component ≡ o → leaf_kind o ref.leaf ≡ Some k → value_kind (leaf_at s key ref) ≡ k
      by_component None e f = absurd (cc)
      by_component (Some component) e f = leaf_has_kind component (s.held ref.component key) ref.leaf k (parts ref.component component e key) f

  leaf_reads : (ref : LeafRef) (at : Option Instance) (k : Kind) → ref_kind d.components ref ≡ Some k → IsKeyAt keys (component_key (slice_get d.components ref.component)) at → ReadsValue m (side.value (place_of_ref ref) at) (leaf_at s (key_at keys at) ref)
  leaf_reads ref at k found fits = is.value (place_of_ref ref) at (leaf_there ref at k found fits)

  -- the answers to a query
  query_claim : (query : ℕ) (at : Option Instance) → query_fits (slice_get ty.queries query) ≡ true → IsKeyAt keys (query_key (slice_get ty.queries query)) at → IsClaim at (Query query)
  query_claim query at fits key = by_query (slice_get ty.queries query) refl fits key
    where
      by_query : (o : Option QueryForm) → slice_get ty.queries query ≡ o → query_fits o ≡ true → IsKeyAt keys (query_key o) at → IsClaim at (Query query)
      by_query None e f k = absurd (cc)
      by_query (Some q) e f k =
          let has = query_asked ty d query q sorted signed e in
          let args = key_at keys at ∷ [] in
          let read = answers_are ty d m side s keys is keeps parts at q has.ask args (key_arguments m keys at q.params named f k) (query_good ty query q good e) has.answers in
          let left : query_at ty query ≡ q = get_or_from_slice_get ty.queries query q _ e in
          let right : ask_at d query ≡ has.ask = get_or_from_slice_get d.asks query has.ask _ has.there in
          let same : is_same_value (value_of q.right s.state args) (ask_held has.ask s.held args) ≡ holds_at ty d s (key_at keys at) (Query query) = rw (left, right) refl in
          λ r. subst (λ b. Reads m r (claim_read ty d side (Query query) at r).1 (HasTruth (claim_read ty d side (Query query) at r).0 b)) same
          (rw (e, has.there) (read r))

  -- a field is a leaf
  slot_plain : (slot : Slot) (key : Value) (t : Sort) → FitsKept (one t) slot → read_plain slot ≡ slot_value key slot
  slot_plain (Plain v) key t fits = refl
  slot_plain (Keyed start entries) key t fits = absurd fits

  slot_keyed : (slot : Slot) (key : Value) (k t : Sort) → FitsKept (each k t) slot → read_table key slot ≡ slot_value key slot
  slot_keyed (Plain v) key k t fits = absurd fits
  slot_keyed (Keyed start entries) key k t fits = refl

  kinds_compare : (u v : Value) → value_kind u ≡ value_kind v → value_same u v ≡ is_same_value u v
  kinds_compare (value.Bool b) (value.Bool c) e = truths_same (value.Bool b) (value.Bool c) tt tt
  kinds_compare (value.Num x) (value.Num y) e = numbers_same (value.Num x) (value.Num y) tt refl
  kinds_compare (value.Name x) (value.Name y) e = numbers_same (value.Name x) (value.Name y) tt refl
  kinds_compare (value.Bool b) (value.Num y) e = let is' : ◌≡◌ {A = ℕ} 2 0 = ap kind_number e in absurd (cc)
  kinds_compare (value.Bool b) (value.Name y) e = let is' : ◌≡◌ {A = ℕ} 2 1 = ap kind_number e in absurd (cc)
  kinds_compare (value.Num b) (value.Bool y) e = let is' : ◌≡◌ {A = ℕ} 0 2 = ap kind_number e in absurd (cc)
  kinds_compare (value.Num b) (value.Name y) e = let is' : ◌≡◌ {A = ℕ} 0 1 = ap kind_number e in absurd (cc)
  kinds_compare (value.Name b) (value.Bool y) e = let is' : ◌≡◌ {A = ℕ} 1 2 = ap kind_number e in absurd (cc)
  kinds_compare (value.Name b) (value.Num y) e = let is' : ◌≡◌ {A = ℕ} 1 0 = ap kind_number e in absurd (cc)

  pub record ReadsField (f : ℕ) (at : Option Instance) (k : Kind) : Type 0 where
    pub reads : ReadsValue m (side.value (Field f) at) (slot_value (key_at keys at) (slot_at s.state f))
    pub kind_is : value_kind (slot_value (key_at keys at) (slot_at s.state f)) ≡ k

  field_reads : (f : ℕ) (at : Option Instance) (k : Kind) → field_kind (slice_get ty.fields f) ≡ Some k → IsKeyAt keys (field_key (slice_get ty.fields f)) at → ReadsField f at k
  field_reads f at k found fits = by_field (slice_get ty.fields f) refl found fits
    where
      kept : (x : TypeField) → slice_get ty.fields f ≡ Some x → slice_get (map kept_of ty.fields) f ≡ Some (kept_of x)
      kept x e = slice_get-map kept_of ty.fields f ∙ ap (option_map kept_of) e

      by_field : (o : Option TypeField) → slice_get ty.fields f ≡ o → field_kind o ≡ Some k → IsKeyAt keys (field_key o) at → ReadsField f at k
      by_field None e g h = absurd (cc)
      by_field (Some (field.Plain name t start)) e g h = by_at at h
        where
          fits' : FitsKept (one t) (slot_at s.state f)
          fits' = keeps f (one t) (kept (field.Plain name t start) e)

          by_at : (i : Option Instance) → IsKeyAt keys None i → ReadsField f i k
          by_at None h' = record {
            reads = subst (ReadsValue m (side.value (Field f) None)) (slot_plain (slot_at s.state f) absent t fits') (is.value (Field f) None (t, kept (field.Plain name t start) e));
            kind_is = ap value_kind (sym (slot_plain (slot_at s.state f) absent t fits')) ∙ sort_has_kind t (read_plain (slot_at s.state f)) (plain_has_sort t (slot_at s.state f) fits') ∙ some_same (sort_kind t) k g;
          }
          by_at (Some i) h' = absurd h'
      by_field (Some (field.Keyed name key t start)) e g h = by_at at h
        where
          fits' : FitsKept (each key t) (slot_at s.state f)
          fits' = keeps f (each key t) (kept (field.Keyed name key t start) e)

          by_at : (i : Option Instance) → IsKeyAt keys (Some key) i → ReadsField f i k
          by_at None h' = absurd h'
          by_at (Some i) h' = record {
            reads = subst (ReadsValue m (side.value (Field f) (Some i))) (slot_keyed (slot_at s.state f) (keys i) key t fits') (is.value (Field f) (Some i) (record { key = key; sort = t; there = kept (field.Keyed name key t start) e; fits = h' }));
            kind_is = ap value_kind (sym (slot_keyed (slot_at s.state f) (keys i) key t fits')) ∙ sort_has_kind t (read_table (keys i) (slot_at s.state f)) (table_has_sort key t (keys i) (slot_at s.state f) fits') ∙ some_same (sort_kind t) k g;
          }

  equal_claim : (f : ℕ) (ref : LeafRef) (at : Option Instance) → conjunct_fits ty d.components (Equal f ref) ≡ true → KeyedRight at (Equal f ref) → IsClaim at (Equal f ref)
  equal_claim f ref at fits key r =
      let both = both_hold (same_kind (field_kind (slice_get ty.fields f)) (ref_kind d.components ref)) (same_keys (field_key (slice_get ty.fields f)) (component_key (slice_get d.components ref.component))) fits in
      let kinds = same_kinds (field_kind (slice_get ty.fields f)) (ref_kind d.components ref) both.0 in
      let left = field_reads f at kinds.kind kinds.left key in
      let leaf_key : IsKeyAt keys (component_key (slice_get d.components ref.component)) at = subst (λ o. IsKeyAt keys o at) (keys_are_same _ _ both.1) key in
      let u = slot_value (key_at keys at) (slot_at s.state f) in
      let v = leaf_at s (key_at keys at) ref in
      reads_two m r (side.value (Field f) at r).1 (side.value (place_of_ref ref) at (side.value (Field f) at r).1).1 _ _ _
      (left.reads r) (leaf_reads ref at kinds.kind kinds.right leaf_key (side.value (Field f) at r).1)
      (λ w p q. truth_as w _ _ _ (kinds_compare u v (left.kind_is ∙ sym (leaf_value_kind ref (key_at keys at) kinds.kind kinds.right))) (equal_has w _ _ u v p q))

  -- the sum of a tally
  sums_key : (component : ComponentForm) (h : Held) → has_sums (Some component) ≡ true → FitsHeld component h → number_of (leaf_in h 0) ≡ measure (leaf_in h 0)
  sums_key (a_tally effects) (total z) e f = refl
  sums_key (tallies key effects) (total z) e f = refl
  sums_key (a_tally effects) (cell z) e f = absurd f
  sums_key (a_tally effects) (member z) e f = absurd f
  sums_key (tallies key effects) (cell z) e f = absurd f
  sums_key (tallies key effects) (member z) e f = absurd f
  sums_key (a_cell shape starts effects) h e f = absurd (cc)
  sums_key (a_table key shape starts effects) h e f = absurd (cc)
  sums_key (a_set key effects) h e f = absurd (cc)

  sums_kind : (component : ComponentForm) → has_sums (Some component) ≡ true → slice_get (component_kinds component) 0 ≡ Some kind.Number
  sums_kind (a_tally effects) e = refl
  sums_kind (tallies key effects) e = refl
  sums_kind (a_cell shape starts effects) e = absurd (cc)
  sums_kind (a_table key shape starts effects) e = absurd (cc)
  sums_kind (a_set key effects) e = absurd (cc)

  total_claim : (c : ℕ) (at : Option Instance) → has_sums (slice_get d.components c) ≡ true → IsKeyAt keys (component_key (slice_get d.components c)) at → IsClaim at (Total c)
  total_claim c at fits key = by_component (slice_get d.components c) refl fits key
    where
      by_component : (o : Option ComponentForm) → slice_get d.components c ≡ o → has_sums o ≡ true → IsKeyAt keys (component_key o) at → IsClaim at (Total c)
      by_component None e f h r = absurd (cc)
      by_component (Some component) e f h r =
          let held = s.held c (key_at keys at) in
          let v = leaf_in held 0 in
          let kind_is = leaf_has_kind component held 0 kind.Number (parts c component e (key_at keys at)) (sums_kind component f) in
          reads_as m r (side.value (Leaf c 0) at r).1 _ _
          (kept_number m side (Leaf c 0) at v (ordered_number v kind.Number kind_is tt) (is.value (Leaf c 0) at (record { component = component; kind = kind.Number; there = e; found = sums_kind component f; fits = h })) r)
          (λ w q. truth_as w _ _ _ (ap (λ z. int_le (pos 0) z) (sym (sums_key component held f (parts c component e (key_at keys at))))) (le_has w _ _ _ _ (numeral_has w (pos 0)) q))

  -- the truth leaf and the digit
  at_least_is : (last : Option Last) (position digit : ℕ) → RanksFit ty last → position_kind ty position ≡ Some kind.Number → (is_begun last && int_le (pos digit) (measure (element_of last position))) ≡ is_at_least last position digit
  at_least_is None position digit fits k = refl
  at_least_is (Some last) position digit fits k = ap (λ z. int_le (pos digit) z) (as_number_of (argument last.rank position) (element_has_kind ty last position kind.Number fits k))

  digit_kind : (position digit : ℕ) → digit_fits ty position digit ≡ true → position_kind ty position ≡ Some kind.Number
  digit_kind position digit fits =
      let both = both_hold (same_kind (position_kind ty position) (Some kind.Number)) _ fits in
      let kinds = same_kinds (position_kind ty position) (Some kind.Number) both.0 in
      kinds.left ∙ sym kinds.right

  at_least_claim : (ref : LeafRef) (position digit : ℕ) (at : Option Instance) → conjunct_fits ty d.components (AtLeast ref position digit) ≡ true → KeyedRight at (AtLeast ref position digit) → IsClaim at (AtLeast ref position digit)
  at_least_claim ref position digit at fits key r =
      let both = both_hold (same_kind (ref_kind d.components ref) (Some kind.Truth)) (digit_fits ty position digit) fits in
      let kinds = same_kinds (ref_kind d.components ref) (Some kind.Truth) both.0 in
      let found : ref_kind d.components ref ≡ Some kind.Truth = kinds.left ∙ sym kinds.right in
      let v = leaf_at s (key_at keys at) ref in
      let truth_leaf = kind_truth v kind.Truth (leaf_value_kind ref (key_at keys at) kind.Truth found) refl in
      let begun = side.begun r in
      let x = side.value (place_of_ref ref) at begun.1 in
      let e = side.element position x.1 in
      reads_two m r x.1 e.1 (λ w. HasTruth begun.0 (is_begun s.last) w × HasTruth (truth_in x.0) (truth_of v) w) (HasNumber e.0 (measure (element_of s.last position))) _
      (reads_two m r begun.1 x.1 (HasTruth begun.0 (is_begun s.last)) (HasTruth (truth_in x.0) (truth_of v)) _ (is.begun r)
      (kept_truth m side (place_of_ref ref) at v truth_leaf (leaf_reads ref at kind.Truth found key) begun.1) (λ w p q. (p, q)))
      (is.element position x.1)
      (λ w p q. truth_as w _ _ _ (ap (λ b. not (truth_of v) || b) (at_least_is s.last position digit ranks (digit_kind position digit both.1)))
      (or_has w _ _ _ _ (not_has w _ _ p.1) (and_has w _ _ _ _ p.0 (le_has w _ _ _ _ (numeral_has w (pos digit)) q))))

  -- two leaves, an element and a digit
  four_has : (w : World) (f g h i : Fact) (a b c e : Bool) → HasTruth f a w → HasTruth g b w → HasTruth h c w → HasTruth i e w → HasTruth (any_of (listed (f ∷ g ∷ h ∷ i ∷ []))) (a || (b || (c || (e || false)))) w
  four_has w f g h i a b c e p q r t = record { is = rw (p.is, q.is, r.is, t.is) refl }

  matched_is : (last : Option Last) (first : Value) (position : ℕ) (second : Value) (later digit : ℕ) → RanksFit ty last → IsNumber first → position_kind ty position ≡ Some (value_kind first) → position_kind ty later ≡ Some kind.Number
      → (not (is_begun last) || (not (int_same (measure first) (measure (element_of last position))) || (not (truth_of second) || (int_le (pos digit) (measure (element_of last later)) || false)))) ≡ is_matched last first position second later digit
  matched_is None first position second later digit fits n k l = refl
  matched_is (Some last) first position second later digit fits n k l =
      let one : int_same (measure first) (measure (argument last.rank position)) ≡ is_same_value first (argument last.rank position) = numbers_same first (argument last.rank position) n (sym (element_has_kind ty last position (value_kind first) fits k)) in
      let two : measure (argument last.rank later) ≡ number_of (argument last.rank later) = as_number_of (argument last.rank later) (element_has_kind ty last later kind.Number fits l) in
      all_three (not (int_same (measure first) (measure (argument last.rank position)))) (not (truth_of second)) (int_le (pos digit) (measure (argument last.rank later))) (is_matched (Some last) first position second later digit) (rw (one, two) refl)

  matched_claim : (first : LeafRef) (position : ℕ) (second : LeafRef) (later digit : ℕ) (at : Option Instance) → conjunct_fits ty d.components (Matched first position second later digit) ≡ true → KeyedRight at (Matched first position second later digit) → IsClaim at (Matched first position second later digit)
  matched_claim first position second later digit at fits key r =
      let five = both_hold _ (digit_fits ty later digit) fits in
      let four = both_hold _ (nat_lt position later) five.0 in
      let three = both_hold _ (nat_eq first.component second.component) four.0 in
      let two = both_hold _ (same_kind (ref_kind d.components second) (Some kind.Truth)) three.0 in
      let one = both_hold (is_ordered (ref_kind d.components first)) (same_kind (ref_kind d.components first) (position_kind ty position)) two.0 in
      let first_kinds = same_kinds (ref_kind d.components first) (position_kind ty position) one.1 in
      let second_kinds = same_kinds (ref_kind d.components second) (Some kind.Truth) two.1 in
      let second_found : ref_kind d.components second ≡ Some kind.Truth = second_kinds.left ∙ sym second_kinds.right in
      let one_component : first.component ≡ second.component = eqb-true first.component second.component three.1 in
      let second_key : IsKeyAt keys (component_key (slice_get d.components second.component)) at = subst (λ c. IsKeyAt keys (component_key (slice_get d.components c)) at) one_component key in
      let u = leaf_at s (key_at keys at) first in
      let v = leaf_at s (key_at keys at) second in
      let u_kind = leaf_value_kind first (key_at keys at) first_kinds.kind first_kinds.left in
      let u_ordered : IsOrderedKind first_kinds.kind = ordered_kind first_kinds.kind (subst (λ o. is_ordered o ≡ true) first_kinds.left one.0) in
      let u_number = ordered_number u first_kinds.kind u_kind u_ordered in
      let v_truth = kind_truth v kind.Truth (leaf_value_kind second (key_at keys at) kind.Truth second_found) refl in
      let begun = side.begun r in
      let x = side.value (place_of_ref first) at begun.1 in
      let e = side.element position x.1 in
      let y = side.value (place_of_ref second) at e.1 in
      let l = side.element later y.1 in
      reads_two m r y.1 l.1 (λ w. (HasTruth begun.0 (is_begun s.last) w × HasNumber (number_in x.0) (measure u) w) × (HasNumber e.0 (measure (element_of s.last position)) w × HasTruth (truth_in y.0) (truth_of v) w)) (HasNumber l.0 (measure (element_of s.last later))) _
      (reads_two m r x.1 y.1 (λ w. HasTruth begun.0 (is_begun s.last) w × HasNumber (number_in x.0) (measure u) w) (λ w. HasNumber e.0 (measure (element_of s.last position)) w × HasTruth (truth_in y.0) (truth_of v) w) _
      (reads_two m r begun.1 x.1 (HasTruth begun.0 (is_begun s.last)) (HasNumber (number_in x.0) (measure u)) _ (is.begun r) (kept_number m side (place_of_ref first) at u u_number (leaf_reads first at first_kinds.kind first_kinds.left key) begun.1) (λ w p q. (p, q)))
      (reads_two m x.1 e.1 y.1 (HasNumber e.0 (measure (element_of s.last position))) (HasTruth (truth_in y.0) (truth_of v)) _ (is.element position x.1) (kept_truth m side (place_of_ref second) at v v_truth (leaf_reads second at kind.Truth second_found second_key) e.1) (λ w p q. (p, q)))
      (λ w p q. (p, q)))
      (is.element later y.1)
      (λ w p q. truth_as w _ _ _ (matched_is s.last u position v later digit ranks u_number (first_kinds.right ∙ ap Some (sym u_kind)) (digit_kind later digit five.1))
      (four_has w _ _ _ _ _ _ _ _ (not_has w _ _ p.0.0) (not_has w _ _ (same_has w _ _ _ _ p.0.1 p.1.0)) (not_has w _ _ p.1.1) (le_has w _ _ _ _ (numeral_has w (pos digit)) q)))

  -- leaves at most the rank's elements
  bounded_is : (last : Option Last) (position : ℕ) (refs : List LeafRef) (leaves : LeafRef → Value) → RanksFit ty last → LeavesHaveKinds d.components leaves refs → match_elements d.components refs (drop position (rank_kinds ty.ops)) ≡ true
      → (not (is_begun last) || not (values_lt (element_pairs (element_of last) leaves position refs))) ≡ are_bounded last position (map leaves refs)
  bounded_is None position refs leaves fits kinds match = refl
  bounded_is (Some last) position refs leaves fits kinds match =
      ap not (pairs_compare d.components leaves (argument last.rank) position refs (drop position last.rank) (dropped last.rank position) kinds
      (ap (match_elements d.components refs) (sym (ap (drop position) (sym fits) ∙ drop-map some_kind position last.rank)) ∙ match))

  refs_there : (component : ℕ) (refs : List LeafRef) (at : Option Instance) (ks : List (Option Kind)) → are_of component refs ≡ true → match_elements d.components refs ks ≡ true → IsKeyAt keys (component_key (slice_get d.components component)) at
      → ReadsRefs m side at (leaf_at s (key_at keys at)) refs × LeavesHaveKinds d.components (leaf_at s (key_at keys at)) refs
  refs_there component [] at ks of match key = (tt, tt)
  refs_there component (ref ∷ refs) at [] of match key = absurd (cc)
  refs_there component (ref ∷ refs) at (k ∷ ks) of match key =
      let here = both_hold (nat_eq ref.component component) (are_of component refs) of in
      let matched = both_hold (same_kind (option_map as_ranked (ref_kind d.components ref)) k) (match_elements d.components refs ks) match in
      let kinds = same_kinds (option_map as_ranked (ref_kind d.components ref)) k matched.0 in
      let leaf = mapped_kind (ref_kind d.components ref) kinds.kind kinds.left in
      let same : ref.component ≡ component = eqb-true ref.component component here.0 in
      let rest = refs_there component refs at ks here.1 matched.1 key in
      let own : IsKeyAt keys (component_key (slice_get d.components ref.component)) at = subst (λ c. IsKeyAt keys (component_key (slice_get d.components c)) at) (sym same) key in
      ((leaf_reads ref at leaf.0 leaf.1 own, rest.0), (leaf_value_kind ref (key_at keys at), rest.1))

  bounded_claim : (refs : List LeafRef) (position : ℕ) (at : Option Instance) → conjunct_fits ty d.components (Bounded refs position) ≡ true → KeyedRight at (Bounded refs position) → IsClaim at (Bounded refs position)
  bounded_claim [] position at fits key r = absurd (cc)
  bounded_claim (ref ∷ refs) position at fits key r =
      let three = both_hold _ (match_elements d.components (ref ∷ refs) (drop position (rank_kinds ty.ops))) fits in
      let two = both_hold _ (are_apart (ref ∷ refs)) three.0 in
      let one = both_hold (has_rising_leaves (slice_get d.components ref.component)) (are_of ref.component refs) two.0 in
      let leaves = leaf_at s (key_at keys at) in
      let of : are_of ref.component (ref ∷ refs) ≡ true = first_of_all ref.component (are_of ref.component refs) one.1 in
      let there = refs_there ref.component (ref ∷ refs) at (drop position (rank_kinds ty.ops)) of three.1 key in
      let begun = side.begun r in
      let pairs = elements_read side at position (ref ∷ refs) begun.1 in
      reads_two m r begun.1 pairs.1 (HasTruth begun.0 (is_begun s.last)) (MeanAll pairs.0 (element_pairs (element_of s.last) leaves position (ref ∷ refs))) _
      (is.begun r) (elements_reads m side at (element_of s.last) leaves is.element position (ref ∷ refs) there.0 begun.1)
      (λ w p q. truth_as w _ _ _ (bounded_is s.last position (ref ∷ refs) leaves ranks there.1 three.1) (or_has w _ _ _ _ (not_has w _ _ p) (not_has w _ _ (less_has w pairs.0 (element_pairs (element_of s.last) leaves position (ref ∷ refs)) q))))

  pub claim_is : (c : Conjunct) (at : Option Instance) → FitsConjunct ty d.components c → IsKeyAt keys (conjunct_key ty d.components c) at → IsClaim at c
  claim_is (Query query) at fits key = query_claim query at fits key
  claim_is (Equal f ref) at fits key = equal_claim f ref at fits key
  claim_is (Bounded refs position) at fits key = bounded_claim refs position at fits key
  claim_is (AtLeast ref position digit) at fits key = at_least_claim ref position digit at fits key
  claim_is (Matched first position second later digit) at fits key = matched_claim first position second later digit at fits key
  claim_is (Total c) at fits key = total_claim c at fits key
