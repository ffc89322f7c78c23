-- The side after an operation reads the situation after it, and what is known of the operation.
use Rattle.std.proofs.Common.{◌≡◌, ◌≢◌, ℕ, zero, suc, ◌+◌, ◌<◌, ◌≤◌, pos, ◌≤ℤ◌, int_lt, Bool, true, false, not, ◌&&◌, ◌||◌, List, [], ◌∷◌, length, map, Option, Some, None, refl, sym, ap, subst, ◌∙◌, arith, All}
use Rattle.std.specs.Prelude.{MatchOption, reverse, slice_get, option_map}
use Rattle.std.specs.Cmp.Lexicographic.{slice_cmp}
use Rattle.std.specs.Ordering.{is_eq, is_lt, ordering_then}
use Rattle.std.specs.declared.cmp.Ordering.{Ordering}
use Rattle.std.specs.declared.cmp.Ordering.TheVariants.{Less, Equal, Greater}
use Rattle.std.proofs.lemmas.Int.{ints}
use Rattle.std.proofs.lemmas.List.{length-map, reverse-append, reverse-reverse}
use Rattle.std.proofs.lemmas.List.Elements.{All-append, All-cons, All-head, All-nil, All-tail}
use Rattle.std.proofs.lemmas.Option.{get_or_from_slice_get, slice_get-map, slice_get_within}
use Rattle.kat_num.specs.Values.{HasSort}
use Rattle.kat_num.specs.declared.values.Sort.TheVariants as sort
use Rattle.kat_num.specs.declared.values.Value.{Value}
use Rattle.kat_num.specs.declared.values.Value.TheVariants as value
use Rattle.kat_expr.specs.Slots.{absent, argument, read_plain, read_table, slot_at}
use Rattle.kat_expr.specs.Sorts.{FitsScope, Kept as KeptSort, Scope}
use Rattle.kat_expr.specs.Sorts.Kept.{one, each}
use Rattle.kat_type.specs.Alike.{HasAlikeRanks, element_kind as type_kind}
use Rattle.kat_type.specs.Fits.{AssignedFits, IsWellSorted as IsGoodType, OperationFits, kept_of, sorts_of}
use Rattle.kat_type.specs.Ranks.{element_value, kind_of, rank_cmp, rank_of, stated_rank, value_cmp}
use Rattle.kat_type.specs.Signatures.{op_sig, param_sorts, signature_of}
use Rattle.kat_type.specs.Types.{Assigned, OperationForm, TypeForm}
use Rattle.kat_type.specs.declared.done.Done.{Done}
use Rattle.kat_type.specs.declared.types.Param.{Param}
use Rattle.kat_type.specs.declared.types.Rank.{Rank}
use Rattle.kat_type.specs.declared.types.Rank.TheVariants as rank
use Rattle.kat_seq.specs.States.{change_of, changed_by, operation_at, stepped}
use Rattle.kat_seq.proofs.Sorting.{got_made}
use Rattle.kat_design.specs.Designs.{DesignForm}
use Rattle.kat_design.specs.Sorted.{IsWellSorted}
use Rattle.kat_form.specs.Facts.Fact.{known}
use Rattle.kat_claims.specs.Effects.{leaves_of as leaves_read}
use Rattle.kat_claims.specs.Groups.{apart_read, at_least, equal_read, order_read, order_stated, ranks_read, stated}
use Rattle.kat_symbols.specs.Readers.{Reader, read_flag, read_name}
use Rattle.kat_claims.specs.States.{field_start, is_truth_sort, old_side}
use Rattle.kat_vc.specs.Steps.{after_side, element_after, field_after, value_after}
use Rattle.kat_symbols.specs.declared.names.Instance.{Instance}
use Rattle.kat_symbols.specs.declared.names.Instance.TheVariants.{Argument}
use Rattle.kat_symbols.specs.declared.names.Name.{Name}
use Rattle.kat_symbols.specs.declared.names.Name.TheVariants.{Key, Kept, Effect, Begun, Element, LastTime, LastReplica, Time, Replica}
use Rattle.kat_symbols.specs.declared.names.Place.{Place}
use Rattle.kat_symbols.specs.declared.names.Place.TheVariants.{Field, Leaf}
use Rattle.kat_invariant.specs.Legal.{ComesBehind, IsLegal, IsLegalLast, MayFollow}
use Rattle.kat_invariant.specs.Situations.{Last, Situation, after}
use Rattle.kat_invariant.proofs.Comparing.{MeanAll, less_has, values_lt}
use Rattle.kat_invariant.proofs.FieldsAfter.{plain_after, table_after}
use Rattle.kat_invariant.proofs.Gifts.{IsDone}
use Rattle.kat_invariant.proofs.Groups.{Passes, equal_reads, least_reads, passes_then, true_stated}
use Rattle.kat_invariant.proofs.Having.{ReadsNumber, ReadsTruth, ReadsValue, and_has, known_has, not_has, number_as, numeral_has, or_has, truth_as}
use Rattle.kat_invariant.proofs.LeavesAfter.{effect_value, gift_value, gifts_given, leaf_is_after}
use Rattle.kat_invariant.proofs.Logic.{Meant, measure, HasNumber, HasTruth, Means, Reads, stays, reads_as, reads_flag, reads_name, reads_once, reads_two}
use Rattle.kat_invariant.proofs.Meaning.{component_is, field_truth, keys_at, names_now, old_is_side, replica_of, time_of}
use Rattle.kat_invariant.proofs.Ranking.{done_kinds, last_kinds, one_rank, operation_fits, ranks_ordered, AreOrdered}
use Rattle.kat_invariant.proofs.Comparing.{int_equals, int_less, nat_equals, nat_less}
use Rattle.kat_invariant.proofs.Saying.{int_same}
use Rattle.kat_invariant.proofs.Situated.{AreArguments, IsAt, IsLeaf, IsSide, element_of, is_begun, key_at, place_value, scope_read}
use Rattle.kat_invariant.proofs.Stepping.{behind_is, state_behind}

-- what names stand for after an operation
abbrev pub names_later : TypeForm → DesignForm → Done → Situation → (Instance → Value) → Name → Value
names_later ty d done s keys (Kept place at) = place_value (after ty d done s) keys place at
names_later ty d done s keys (Effect c l) = effect_value d done c l
names_later ty d done s keys (Key i) = absent
names_later ty d done s keys Begun = absent
names_later ty d done s keys (Element j) = absent
names_later ty d done s keys LastTime = absent
names_later ty d done s keys LastReplica = absent
names_later ty d done s keys Time = absent
names_later ty d done s keys Replica = absent

pub all_reversed : {X : Type 0} (P : X → Type 0) (xs : List X) → All P xs → All P (reverse xs)
all_reversed P [] h = h
all_reversed P (x ∷ xs) h = subst (All P) (sym (reverse-append (x ∷ []) xs)) (All-append P (reverse xs) (x ∷ []) (all_reversed P xs (All-tail P x xs h)) (All-cons P x [] (All-head P x xs h) (All-nil P)))

-- ranks by numbers
abbrev MeasuresAll : List Value → List Value → Type 0
MeasuresAll [] [] = Unit {0}
MeasuresAll (u ∷ us) (v ∷ vs) = ((is_lt (value_cmp u v) ≡ int_lt (measure u) (measure v)) × (is_eq (value_cmp u v) ≡ int_same (measure u) (measure v))) × MeasuresAll us vs
MeasuresAll [] (v ∷ vs) = ⊥
MeasuresAll (u ∷ us) [] = ⊥

one_measures : (u v : Value) → kind_of u ≡ kind_of v → kind_of u ≢ 0 → (is_lt (value_cmp u v) ≡ int_lt (measure u) (measure v)) × (is_eq (value_cmp u v) ≡ int_same (measure u) (measure v))
one_measures (value.Bool b) v e h = absurd (h refl)
one_measures (value.Num x) (value.Num y) e h = (int_less x y, int_equals x y)
one_measures (value.Num x) (value.Bool y) e h = absurd (omega (arith, e))
one_measures (value.Num x) (value.Name y) e h = absurd (omega (arith, e))
one_measures (value.Name x) (value.Name y) e h = (nat_less x y, nat_equals x y)
one_measures (value.Name x) (value.Bool y) e h = absurd (omega (arith, e))
one_measures (value.Name x) (value.Num y) e h = absurd (omega (arith, e))

all_measure : (us vs : List Value) → map kind_of us ≡ map kind_of vs → AreOrdered (map kind_of us) → MeasuresAll us vs
all_measure [] [] e h = tt
all_measure (u ∷ us) (v ∷ vs) e h = (one_measures u v (let first : kind_of u ≡ kind_of v = cc in first) h.0, all_measure us vs (let rest : map kind_of us ≡ map kind_of vs = cc in rest) h.1)
all_measure [] (v ∷ vs) e h = absurd (cc)
all_measure (u ∷ us) [] e h = absurd (cc)

abbrev rank_pairs : (ℕ → Value) → (ℕ → Value) → ℕ → List Rank → List (Value × Value)
rank_pairs new old j [] = []
rank_pairs new old j (e ∷ es) = (value.Num (measure (new j)), value.Num (measure (old j))) ∷ rank_pairs new old (suc j) es

then_less : (o u : Ordering) → is_lt (ordering_then o u) ≡ (is_lt o || (is_eq o && is_lt u))
then_less Less u = refl
then_less Equal u = refl
then_less Greater u = refl

pairs_are_less : (new old : ℕ → Value) (j : ℕ) (es : List Rank) (us vs : List Value) → length us ≡ length es → ((i : ℕ) → new (j + i) ≡ argument us i) → ((i : ℕ) → old (j + i) ≡ argument vs i) → MeasuresAll us vs
    → values_lt (rank_pairs new old j es) ≡ is_lt (slice_cmp value_cmp us vs)
pairs_are_less new old j [] [] [] long p q h = refl
pairs_are_less new old j [] [] (v ∷ vs) long p q h = absurd h
pairs_are_less new old j (e ∷ es) [] vs long p q h = absurd (omega (arith, long))
pairs_are_less new old j [] (u ∷ us) vs long p q h = absurd (omega (arith, long))
pairs_are_less new old j (e ∷ es) (u ∷ us) [] long p q h = absurd h
pairs_are_less new old j (e ∷ es) (u ∷ us) (v ∷ vs) long p q h =
    let here : j + 0 ≡ j = omega arith in
    let pu : new j ≡ u = subst (λ n. new n ≡ u) here (p 0) in
    let qv : old j ≡ v = subst (λ n. old n ≡ v) here (q 0) in
    let rest = pairs_are_less new old (suc j) es us vs (omega (arith, long)) (λ i. let same : j + suc i ≡ suc j + i = omega arith in subst (λ n. new n ≡ argument us i) same (p (suc i)))
    (λ i. let same : j + suc i ≡ suc j + i = omega arith in subst (λ n. old n ≡ argument vs i) same (q (suc i))) h.1 in
    rw (pu, qv, rest) (sym (then_less (value_cmp u v) (slice_cmp value_cmp us vs) ∙ rw (h.0.0, h.0.1) refl))

nat_one : (x y : ℕ) → int_same (pos x) (pos y) ≡ true → x ≡ y
nat_one x y h = grind (arith, ints)

int_natural : (n k : ℕ) → n ≤ k → pos n ≤ℤ pos k
int_natural n k h = omega (arith, ints, h)

both_true : (a b : Bool) → (a && b) ≡ true → (a ≡ true) × (b ≡ true)
both_true true b e = (refl, e)
both_true false b e = absurd (cc)

not_both : (a b : Bool) → ((a ≡ true) × (b ≡ true) → ⊥) → not (a && b) ≡ true
not_both a b h = by_value (a && b) (both_true a b)
  where
    by_value : (c : Bool) → (c ≡ true → (a ≡ true) × (b ≡ true)) → not c ≡ true
    by_value true k = absurd (h (k refl))
    by_value false k = refl

not_less : (o : Ordering) → o ≢ Less → not (is_lt o) ≡ true
not_less Less h = absurd (h refl)
not_less Equal h = refl
not_less Greater h = refl

-- the keys of a type's tables are numbers or names
abbrev pub KeyFits : KeptSort → Type 0
KeyFits (one s) = Unit {0}
KeyFits (each key s) = key ≢ sort.Bool

module _ (ty : TypeForm) (d : DesignForm) (good : IsGoodType ty) (alike : HasAlikeRanks ty) (tables : (f : ℕ) (k : KeptSort) → slice_get (map kept_of ty.fields) f ≡ Some k → KeyFits k) (sorted : IsWellSorted d) (signed : d.sig ≡ signature_of ty)
    (s : Situation) (legal : IsLegal ty d s) (done : Done) (follows : MayFollow ty done s) (k : Value) where
  abbrev op : OperationForm
  op = follows.fits.operation

  abbrev keys : Instance → Value
  keys = keys_at k done.args

  abbrev later : Name → Value
  later = names_later ty d done s keys

  abbrev m : Meant
  m = record { now = names_now s keys done.time done.replica; later = later }

  abbrev scope : Scope
  scope = sorts_of ty.fields op.params

  op_good : OperationFits ty.fields op
  op_good = operation_fits ty done.op op good follows.fits.there

  op_signed : slice_get d.sig.ops done.op ≡ Some (op_sig op)
  op_signed = ap (λ x. slice_get x.ops done.op) signed ∙ slice_get-map op_sig ty.ops done.op ∙ mapped (slice_get ty.ops done.op) follows.fits.there
    where
      mapped : (o : Option OperationForm) → o ≡ Some op → option_map op_sig o ≡ Some (op_sig op)
      mapped None e = absurd (cc)
      mapped (Some x) e = let is : x ≡ op = cc in ap (λ y. Some (op_sig y)) is

  done_means : IsDone m keys done
  done_means = record { keyed = λ j. refl; named = λ i. refl; time = refl; replica = refl }

  arguments : AreArguments m keys None (param_sorts op.params) done.args
  arguments = record {
    named = λ j q e. refl;
    keyed = λ j q e. refl;
    fit = λ j q e. let made = got_made (λ (p : Param). p.sort) op.params j q e in subst (λ t. HasSort t (argument done.args j)) made.2 (follows.fits.args j made.0 made.1);
  }

  in_scope : FitsScope scope s.state done.args
  in_scope = record { fields = legal.fields; params = arguments.fit }

  pub old_is : IsSide ty d m (old_side ty d) s keys
  old_is = old_is_side ty d s legal.fields legal.parts keys done.time done.replica later

  abbrev last_first : List Assigned
  last_first = reverse op.assigned

  assigned_fit : All (AssignedFits scope) last_first
  assigned_fit = all_reversed (AssignedFits scope) op.assigned op_good.assigned

  operation_is : operation_at ty done.op ≡ op
  operation_is = get_or_from_slice_get ty.ops done.op op _ follows.fits.there

  pub state_is : state_behind s.state done.args last_first ≡ stepped ty s.state done
  state_is = sym (behind_is s.state done.args last_first) ∙ ap (λ (as' : List Assigned). changed_by s.state (map (change_of s.state done.args) as')) (reverse-reverse op.assigned) ∙ ap (λ (o : OperationForm). changed_by s.state (map (change_of s.state done.args) o.assigned)) (sym operation_is)

  within : (f : ℕ) (x : KeptSort) → slice_get (map kept_of ty.fields) f ≡ Some x → f < length s.state
  within f x there = subst (λ n. f < n) (length-map ty.fields kept_of ∙ sym legal.whole) (slice_get_within (map kept_of ty.fields) f x there)

  reads_field : (f : ℕ) (at : Option Instance) → IsAt ty d keys (Field f) at → ReadsValue m (value_after ty d done.op op (Field f) at) (place_value (after ty d done s) keys (Field f) at)
  reads_field f None h =
      let t = h.0 in
      let there = h.1 in
      let read = plain_after m (old_side ty d) scope s.state done keys op.params follows.fits.args done_means in_scope (scope_read ty d m (old_side ty d) s keys old_is None op.params done.args arguments)
      f t (field_start (slice_get ty.fields f)) there (within f (one t) there) (legal.fields f (one t) there) (old_is.value (Field f) None h) last_first assigned_fit in
      λ r. rw (field_truth ty d s legal.fields legal.parts keys f (one t) there) (subst (λ state. Reads m r (field_after (old_side ty d) (is_truth_sort t) (field_start (slice_get ty.fields f)) f None last_first r).1 (Means (field_after (old_side ty d) (is_truth_sort t) (field_start (slice_get ty.fields f)) f None last_first r).0 (read_plain (slot_at state f)))) state_is (read.is_read r))
  reads_field f (Some i) h =
      let read = table_after m (old_side ty d) scope s.state done keys op.params follows.fits.args done_means in_scope (scope_read ty d m (old_side ty d) s keys old_is None op.params done.args arguments)
      f i h.key h.sort (field_start (slice_get ty.fields f)) (legal.starts f) (tables f (each h.key h.sort) h.there) h.there (within f (each h.key h.sort) h.there) h.fits (legal.fields f (each h.key h.sort) h.there) (old_is.value (Field f) (Some i) h) last_first assigned_fit in
      λ r. rw (field_truth ty d s legal.fields legal.parts keys f (each h.key h.sort) h.there) (subst (λ state. Reads m r (field_after (old_side ty d) (is_truth_sort h.sort) (field_start (slice_get ty.fields f)) f (Some i) last_first r).1 (Means (field_after (old_side ty d) (is_truth_sort h.sort) (field_start (slice_get ty.fields f)) f (Some i) last_first r).0 (read_table (keys i) (slot_at state f)))) state_is (read.is_read r))

  reads_leaf : (c l : ℕ) (at : Option Instance) → IsLeaf d keys c l at → ReadsValue m (value_after ty d done.op op (Leaf c l) at) (place_value (after ty d done s) keys (Leaf c l) at)
  reads_leaf c l at h =
      let component = h.component in
      let held = s.held c (key_at keys at) in
      let told : (n : ℕ) → later (Effect c n) ≡ gift_value done (slice_get (gifts_given (Some component) done) n) = λ n. ap (λ o. gift_value done (slice_get (gifts_given o done) n)) h.there in
      let read = leaf_is_after d sorted done op op_signed follows.fits.args m keys done_means c at (leaves_read (old_side ty d) c at) component held l h.kind (component_is d c component sorted h.there) (legal.parts c component h.there (key_at keys at)) h.fits h.found
      (λ n q found. old_is.value (Leaf c n) at (record { component = component; kind = q; there = h.there; found = found; fits = h.fits })) told in
      λ r. rw h.there (read r)

  reads_place : (place : Place) (at : Option Instance) → IsAt ty d keys place at → ReadsValue m (value_after ty d done.op op place at) (place_value (after ty d done s) keys place at)
  reads_place (Field f) at h = reads_field f at h
  reads_place (Leaf c l) at h = reads_leaf c l at h

  -- an element of the operation's rank
  element_reads : (o : Option Rank) (v : Value) → ((e : Rank) → o ≡ Some e → v ≡ element_value done e) → (o ≡ None → v ≡ absent) → ReadsNumber m (element_after o) (measure v)
  element_reads None v h n r = stays m r _ (λ w f. number_as w _ _ _ (ap measure (sym (n refl))) (numeral_has w (pos 0)))
  element_reads (Some (rank.Digit n)) v h k' r = stays m r _ (λ w f. number_as w _ _ _ (ap measure (sym (h (rank.Digit n) refl))) (numeral_has w (pos n)))
  element_reads (Some rank.Time) v h k' r = reads_as m r (read_name Time r).1 _ _ (reads_name m Time r) (λ w q. number_as w _ _ _ (ap measure (sym (h rank.Time refl))) q)
  element_reads (Some rank.Replica) v h k' r = reads_as m r (read_name Replica r).1 _ _ (reads_name m Replica r) (λ w q. number_as w _ _ _ (ap measure (sym (h rank.Replica refl))) q)
  element_reads (Some (rank.Arg j)) v h k' r = reads_as m r (read_name (Key (Argument j)) r).1 _ _ (reads_name m (Key (Argument j)) r) (λ w q. number_as w _ _ _ (ap measure (sym (h (rank.Arg j) refl))) q)

  rank_there : (es : List Rank) (j : ℕ) (e : Rank) → slice_get es j ≡ Some e → argument (map (element_value done) es) j ≡ element_value done e
  rank_there [] j e h = absurd (cc)
  rank_there (x ∷ es) zero e h = let is : x ≡ e = cc in ap (element_value done) is
  rank_there (x ∷ es) (suc j) e h = rank_there es j e h

  rank_past : (es : List Rank) (j : ℕ) → slice_get es j ≡ None → argument (map (element_value done) es) j ≡ absent
  rank_past [] j h = refl
  rank_past (x ∷ es) zero h = absurd (cc)
  rank_past (x ∷ es) (suc j) h = rank_past es j h

  rank_is : rank_of ty done ≡ map (element_value done) op.ranks
  rank_is = ap (λ q. map (element_value done) (stated_rank q)) follows.fits.there

  reads_element : (j : ℕ) → ReadsNumber m ((after_side ty d done.op op).element j) (measure (argument (rank_of ty done) j))
  reads_element j = element_reads (slice_get op.ranks j) (argument (rank_of ty done) j)
      (λ e h. ap (λ vs. argument vs j) rank_is ∙ rank_there op.ranks j e h) (λ h. ap (λ vs. argument vs j) rank_is ∙ rank_past op.ranks j h)

  pub after_is : IsSide ty d m (after_side ty d done.op op) (after ty d done s) keys
  after_is = record {
    value = λ place at h. reads_once m (Kept place at) (value_after ty d done.op op place at) (reads_place place at h);
    begun = λ r. stays m r (HasTruth (known true) true) (λ w f. known_has w true);
    element = reads_element;
  }

  -- what is known of the operation
  ranks_are_read : (j : ℕ) (es : List Rank) (r : Reader) → Reads m r (ranks_read (after_side ty d done.op op) (old_side ty d) j es r).1 (MeanAll (ranks_read (after_side ty d done.op op) (old_side ty d) j es r).0 (rank_pairs (argument (rank_of ty done)) (element_of s.last) j es))
  ranks_are_read j [] r = stays m r _ (λ w f. tt)
  ranks_are_read j (e ∷ es) r =
      let x = (after_side ty d done.op op).element j r in let y = (old_side ty d).element j x.1 in let rest = ranks_read (after_side ty d done.op op) (old_side ty d) (suc j) es y.1 in
      reads_two m r y.1 rest.1 (λ w. HasNumber x.0 (measure (argument (rank_of ty done) j)) w × HasNumber y.0 (measure (element_of s.last j)) w) (MeanAll rest.0 (rank_pairs (argument (rank_of ty done)) (element_of s.last) (suc j) es)) _
      (reads_two m r x.1 y.1 (HasNumber x.0 (measure (argument (rank_of ty done) j))) (HasNumber y.0 (measure (element_of s.last j))) _ (reads_element j r) (old_is.element j x.1) (λ w a b. (a, b)))
      (ranks_are_read (suc j) es y.1)
      (λ w a b. (record { is = a.0 }, record { is = a.1 }, b))

  done_rank_kinds : map kind_of (rank_of ty done) ≡ map (type_kind op.params) op.ranks
  done_rank_kinds = ap (map kind_of) rank_is ∙ done_kinds op.params done op.ranks op_good.ranks follows.fits.args

  order_bool : (o : Option Last) → MatchOption o (Unit {0}) (IsLegalLast ty) → MatchOption o (Unit {0}) (ComesBehind ty done) → (not (is_begun o) || not (values_lt (rank_pairs (argument (rank_of ty done)) (element_of o) 0 op.ranks))) ≡ true
  order_bool None l c = refl
  order_bool (Some last) l c =
      let its : map kind_of last.rank ≡ map (type_kind l.operation.params) l.operation.ranks = last_kinds last l.operation.params last.rank l.operation.ranks l.shape in
      let measured : MeasuresAll (rank_of ty done) last.rank = all_measure (rank_of ty done) last.rank (done_rank_kinds ∙ one_rank ty done.op l.op op l.operation alike follows.fits.there l.there ∙ sym its)
      (subst AreOrdered (sym done_rank_kinds) (ranks_ordered op.params op.ranks op_good.ranks)) in
      let long : length (rank_of ty done) ≡ length op.ranks = ap length rank_is ∙ length-map op.ranks (element_value done) in
      ap not (pairs_are_less (argument (rank_of ty done)) (argument last.rank) 0 op.ranks (rank_of ty done) last.rank long (λ i. same_place (rank_of ty done) i) (λ i. same_place last.rank i) measured) ∙ not_less (rank_cmp (rank_of ty done) last.rank) c.ranked
    where
      same_place : (vs : List Value) (i : ℕ) → argument vs (0 + i) ≡ argument vs i
      same_place vs i = let same : 0 + i ≡ i = omega arith in ap (argument vs) same

  order_passes : ReadsTruth m (order_read (after_side ty d done.op op) (old_side ty d) op.ranks) true
  order_passes r =
      let begun = (old_side ty d).begun r in let pairs = ranks_read (after_side ty d done.op op) (old_side ty d) 0 op.ranks begun.1 in
      let values = rank_pairs (argument (rank_of ty done)) (element_of s.last) 0 op.ranks in
      reads_two m r begun.1 pairs.1 (HasTruth begun.0 (is_begun s.last)) (MeanAll pairs.0 values) _ (old_is.begun r) (ranks_are_read 0 op.ranks begun.1)
      (λ w p q. truth_as w _ _ _ (order_bool s.last legal.last follows.behind) (or_has w _ _ _ _ (not_has w _ _ p) (not_has w _ _ (less_has w pairs.0 values q))))

  apart_bool : (o : Option Last) → MatchOption o (Unit {0}) (ComesBehind ty done) → (not (is_begun o) || not (int_same (pos done.time) (pos (time_of o)) && int_same (pos done.replica) (pos (replica_of o)))) ≡ true
  apart_bool None c = refl
  apart_bool (Some last) c = not_both (int_same (pos done.time) (pos last.time)) (int_same (pos done.replica) (pos last.replica)) (λ both. c.other (nat_one done.time last.time both.0, nat_one done.replica last.replica both.1))

  apart_passes : ReadsTruth m apart_read true
  apart_passes r =
      let begun = read_flag Begun r in let time = equal_read Time LastTime begun.1 in let replica = equal_read Replica LastReplica time.1 in
      let bt = int_same (pos done.time) (pos (time_of s.last)) in let br = int_same (pos done.replica) (pos (replica_of s.last)) in
      reads_two m r time.1 replica.1 (λ w. HasTruth begun.0 (is_begun s.last) w × HasTruth time.0 bt w) (HasTruth replica.0 br) _
      (reads_two m r begun.1 time.1 (HasTruth begun.0 (is_begun s.last)) (HasTruth time.0 bt) _ (reads_flag m Begun r) (equal_reads m Time LastTime begun.1) (λ w a b. (a, b)))
      (equal_reads m Replica LastReplica time.1)
      (λ w a b. truth_as w _ _ _ (apart_bool s.last follows.behind) (or_has w _ _ _ _ (not_has w _ _ a.0) (not_has w _ _ (and_has w _ _ _ _ a.1 b))))

  pub order_pass : Passes m (order_stated (after_side ty d done.op op) (old_side ty d) op.ranks)
  order_pass =
      passes_then m (λ r. stated (order_read (after_side ty d done.op op) (old_side ty d) op.ranks (stated (at_least 1 Replica (stated (at_least 1 Time r)))))) (λ r. stated (apart_read r))
      (passes_then m (λ r. stated (at_least 1 Replica (stated (at_least 1 Time r)))) (λ r. stated (order_read (after_side ty d done.op op) (old_side ty d) op.ranks r))
      (passes_then m (λ r. stated (at_least 1 Time r)) (λ r. stated (at_least 1 Replica r))
      (true_stated m (at_least 1 Time) (least_reads m 1 Time (int_natural 1 done.time follows.time)))
      (true_stated m (at_least 1 Replica) (least_reads m 1 Replica (int_natural 1 done.replica follows.replica))))
      (true_stated m (order_read (after_side ty d done.op op) (old_side ty d) op.ranks) order_passes))
      (true_stated m apart_read apart_passes)
