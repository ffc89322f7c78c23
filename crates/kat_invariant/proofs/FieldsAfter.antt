-- A field after an operation is read as what it is.
use Rattle.std.proofs.Common.{◌≡◌, ◌≢◌, ℕ, ◌<◌, Bool, true, false, nat_eq, if◌then◌else◌, List, [], ◌∷◌, length, Option, Some, None, refl, sym, ap, subst, ◌∙◌, All, inl, inr}
use Rattle.std.specs.Prelude.{slice_get, MatchOption}
use Rattle.std.proofs.lemmas.Bool.{eqb-true}
use Rattle.std.proofs.lemmas.Bool.Decides.{Decides-eqb}
use Rattle.std.proofs.lemmas.List.Elements.{All-head, All-nil, All-tail}
use Rattle.kat_num.specs.Values.{HasSort}
use Rattle.kat_num.specs.declared.values.Sort.{Sort}
use Rattle.kat_num.specs.declared.values.Sort.TheVariants as sort
use Rattle.kat_num.specs.declared.values.Value.{Value}
use Rattle.kat_num.specs.declared.values.Value.TheVariants as value
use Rattle.kat_expr.specs.Entries.{IsKey}
use Rattle.kat_expr.specs.Evaluation.{value_of}
use Rattle.kat_expr.specs.Puts.{with_value}
use Rattle.kat_expr.specs.Slots.{argument, entry_at, is_same, read_plain, read_table, slot_at}
use Rattle.kat_expr.specs.Sorts.{FitsKept, FitsScope, FitsSort, Scope}
use Rattle.kat_expr.specs.Sorts.Kept.{one, each}
use Rattle.kat_expr.specs.Terms.{Term}
use Rattle.kat_expr.specs.declared.expressions.Slot.{Slot}
use Rattle.kat_expr.specs.declared.expressions.Slot.TheVariants.{Plain, Keyed}
use Rattle.kat_expr.proofs.Putting.{all_with, at_key, read_again}
use Rattle.kat_expr.proofs.Sorted.{value_has_sort}
use Rattle.kat_type.specs.Fits.{AssignedFits, FitsEntry, FitsPlain, IsTable}
use Rattle.kat_type.specs.Types.{Assigned}
use Rattle.kat_type.specs.Types.Assigned.{to_field, to_entry, to_start}
use Rattle.kat_type.specs.declared.done.Done.{Done}
use Rattle.kat_type.specs.declared.types.Param.{Param}
use Rattle.kat_seq.specs.States.{with_keyed, with_plain, with_start}
use Rattle.kat_claims.specs.Effects.{same_key_read}
use Rattle.kat_symbols.specs.Readers.{Reader}
use Rattle.kat_symbols.specs.Sides.{Side}
use Rattle.kat_claims.specs.States.{is_truth_sort}
use Rattle.kat_vc.specs.Steps.{field_after, right_read}
use Rattle.kat_symbols.specs.Terms.{number_read, truth_read}
use Rattle.kat_symbols.specs.declared.names.Instance.{Instance}
use Rattle.kat_symbols.specs.declared.names.Place.TheVariants.{Field}
use Rattle.kat_invariant.specs.Legal.{StartsAt}
use Rattle.kat_invariant.proofs.Gifts.{ArgumentsFit, IsDone, if_reads, keys_equal, same_key_reads, same_turned}
use Rattle.kat_invariant.proofs.Having.{ReadsValue, chosen_is, number_means, symbol_has, truth_is_truth, truth_means}
use Rattle.kat_invariant.proofs.Joins.{SameKind}
use Rattle.kat_invariant.proofs.Logic.{Meant, measure, reads_as, stays}
use Rattle.kat_invariant.proofs.Saying.{int_same}
use Rattle.kat_invariant.proofs.Spots.{table_has_sort}
use Rattle.kat_invariant.proofs.Stepping.{length_behind, place_assigned, starts_behind, state_behind, written, written_elsewhere, written_there}
use Rattle.kat_invariant.proofs.Terms.{ReadsScope, number_reads, truth_reads}

-- values of one sort are of one kind
pub sorts_alike : (s : Sort) (u v : Value) → HasSort s u → HasSort s v → SameKind u v
sorts_alike sort.Bool u v h k = inl (truth_is_truth u h, truth_is_truth v k)
sorts_alike sort.Int u v h k = inr (chosen_is sort.Int u tt h, chosen_is sort.Int v tt k)
sorts_alike sort.Nat u v h k = inr (chosen_is sort.Nat u tt h, chosen_is sort.Nat v tt k)
sorts_alike sort.Name u v h k = inr (chosen_is sort.Name u tt h, chosen_is sort.Name v tt k)

key_is : (s : Sort) (v : Value) → s ≢ sort.Bool → HasSort s v → IsKey v
key_is sort.Bool v n h = absurd (n refl)
key_is sort.Int (value.Num z) n h = tt
key_is sort.Int (value.Bool z) n h = absurd h
key_is sort.Int (value.Name z) n h = absurd h
key_is sort.Nat (value.Num z) n h = tt
key_is sort.Nat (value.Bool z) n h = absurd h
key_is sort.Nat (value.Name z) n h = absurd h
key_is sort.Name (value.Name z) n h = tt
key_is sort.Name (value.Bool z) n h = absurd h
key_is sort.Name (value.Num z) n h = absurd h

-- a slot keeps what it is to keep
plain_kept : (t : Sort) (v : Value) (slot : Slot) → HasSort t v → FitsKept (one t) slot → FitsKept (one t) (with_plain v slot) × (read_plain (with_plain v slot) ≡ v)
plain_kept t v (Plain old) h f = (h, refl)
plain_kept t v (Keyed start entries) h f = absurd f

entries_kept : (k t : Sort) (at v : Value) (entries : List (Value × Value)) → HasSort k at → HasSort t v → All (λ (e : Value × Value). HasSort k e.0 × HasSort t e.1) entries → All (λ (e : Value × Value). HasSort k e.0 × HasSort t e.1) (with_value at v entries)
entries_kept k t (value.Bool b) v entries h j all = all
entries_kept k t (value.Num x) v entries h j all = all_with (λ (e : Value × Value). HasSort k e.0 × HasSort t e.1) (value.Num x) v entries all (h, j)
entries_kept k t (value.Name x) v entries h j all = all_with (λ (e : Value × Value). HasSort k e.0 × HasSort t e.1) (value.Name x) v entries all (h, j)

keyed_kept : (k t : Sort) (at v key : Value) (slot : Slot) → k ≢ sort.Bool → HasSort k at → HasSort t v → FitsKept (each k t) slot
    → FitsKept (each k t) (with_keyed at v slot) × (read_table key (with_keyed at v slot) ≡ (if is_same at key then v else read_table key slot))
keyed_kept k t at v key (Plain old) n h j f = absurd f
keyed_kept k t at v key (Keyed start entries) n h j f =
    ((f.0, entries_kept k t at v entries h j f.1), ap (λ (es : List (Value × Value)). entry_at key start es) (at_key at v entries (key_is k at n h)) ∙ read_again key start at v entries)

-- alone
pub plain_stays : (t : Sort) (v : Value) (slot : Slot) → HasSort t v → FitsKept (one t) slot → FitsKept (one t) (with_plain v slot)
plain_stays t v slot h f = (plain_kept t v slot h f).0

pub keyed_stays : (k t : Sort) (at v : Value) (slot : Slot) → HasSort k at → HasSort t v → FitsKept (each k t) slot → FitsKept (each k t) (with_keyed at v slot)
keyed_stays k t at v (Plain old) h j f = absurd f
keyed_stays k t at v (Keyed start entries) h j f = (f.0, entries_kept k t at v entries h j f.1)

pub cleared_stays : (k t : Sort) (slot : Slot) → FitsKept (each k t) slot → FitsKept (each k t) (with_start slot)
cleared_stays k t (Plain old) f = absurd f
cleared_stays k t (Keyed start entries) f = (f.0, All-nil (λ (e : Value × Value). HasSort k e.0 × HasSort t e.1))

-- a table that is cleared has its start at every key
cleared_read : (k t : Sort) (v key : Value) (slot : Slot) → FitsKept (each k t) slot → StartsAt v slot → read_table key (with_start slot) ≡ v
cleared_read k t v key (Plain old) f h = absurd f
cleared_read k t v key (Keyed start entries) f h = h

-- what is said of the value that is there
pub fits_there : {X : Type 0} (o : Option X) (x : X) (P : X → Type 0) → o ≡ Some x → MatchOption o ⊥ P → P x
fits_there None x P e h = absurd (cc)
fits_there (Some y) x P e h = let is : y ≡ x = cc in subst P is h

module _ (m : Meant) (side : Side) (scope : Scope) (old : List Slot) (done : Done) (keys : Instance → Value) (params : List Param) (fit : ArgumentsFit params done) (means : IsDone m keys done)
    (fits : FitsScope scope old done.args) (reads : ReadsScope m side None scope old done.args) where
  right_reads : (t : Sort) (right : Term) → FitsSort scope right t → ReadsValue m (right_read side (is_truth_sort t) right) (value_of right old done.args)
  right_reads sort.Bool right h r = reads_as m r (truth_read side None right r).1 _ _ (truth_reads m side None scope old done.args fits reads right h r) (λ w q. truth_means w _ _ (truth_is_truth _ (value_has_sort scope old done.args fits right sort.Bool h)) q)
  right_reads sort.Int right h r = reads_as m r (number_read side None right r).1 _ _ (number_reads m side None scope old done.args fits reads right sort.Int tt h r) (λ w q. number_means w _ _ (chosen_is sort.Int _ tt (value_has_sort scope old done.args fits right sort.Int h)) q)
  right_reads sort.Nat right h r = reads_as m r (number_read side None right r).1 _ _ (number_reads m side None scope old done.args fits reads right sort.Nat tt h r) (λ w q. number_means w _ _ (chosen_is sort.Nat _ tt (value_has_sort scope old done.args fits right sort.Nat h)) q)
  right_reads sort.Name right h r = reads_as m r (number_read side None right r).1 _ _ (number_reads m side None scope old done.args fits reads right sort.Name tt h r) (λ w q. number_means w _ _ (chosen_is sort.Name _ tt (value_has_sort scope old done.args fits right sort.Name h)) q)

  abbrev behind : List Assigned → List Slot
  behind more = state_behind old done.args more

  there_now : (f : ℕ) (a : Assigned) (more : List Assigned) → f < length old → nat_eq (place_assigned a) f ≡ true → slot_at (behind (a ∷ more)) f ≡ written old done.args a (slot_at (behind more) f)
  there_now f a more within e =
      let is : place_assigned a ≡ f = eqb-true (place_assigned a) f e in
      let inside : place_assigned a < length (behind more) = subst (λ n. place_assigned a < n) (sym (length_behind old done.args more)) (subst (λ n. n < length old) (sym is) within) in
      subst (λ n. slot_at (behind (a ∷ more)) n ≡ written old done.args a (slot_at (behind more) n)) is (written_there old done.args a (behind more) inside)

  elsewhere_now : (f : ℕ) (a : Assigned) (more : List Assigned) → nat_eq (place_assigned a) f ≡ false → slot_at (behind (a ∷ more)) f ≡ slot_at (behind more) f
  elsewhere_now f a more e = written_elsewhere old done.args a (behind more) f (λ is. differ is)
    where
      differ : f ≡ place_assigned a → ⊥
      differ is = let same : nat_eq (place_assigned a) f ≡ true = (Decides-eqb (place_assigned a) f).1 (sym is) in absurd (let both : true ≡ false = sym same ∙ e in cc)

  -- a field that is no table
  pub record PlainAfter (f : ℕ) (t : Sort) (start : Value) (more : List Assigned) : Type 0 where
    pub stays : FitsKept (one t) (slot_at (behind more) f)
    pub is_read : ReadsValue m (field_after side (is_truth_sort t) start f None more) (read_plain (slot_at (behind more) f))

  plain_same : (f : ℕ) (t : Sort) (start : Value) (a : Assigned) (more : List Assigned) → nat_eq (place_assigned a) f ≡ false → ((r : Reader) → field_after side (is_truth_sort t) start f None (a ∷ more) r ≡ field_after side (is_truth_sort t) start f None more r)
      → PlainAfter f t start more → PlainAfter f t start (a ∷ more)
  plain_same f t start a more e same h = record {
    stays = subst (FitsKept (one t)) (sym (elsewhere_now f a more e)) h.stays;
    is_read = λ r. rw (same r, elsewhere_now f a more e) (h.is_read r);
  }

  pub plain_after : (f : ℕ) (t : Sort) (start : Value) → slice_get scope.fields f ≡ Some (one t) → f < length old → FitsKept (one t) (slot_at old f) → ReadsValue m (side.value (Field f) None) (read_plain (slot_at old f)) → (more : List Assigned) → All (AssignedFits scope) more → PlainAfter f t start more
  plain_after f t start there within kept reads_old [] h = record { stays = kept; is_read = reads_old }
  plain_after f t start there within kept reads_old (to_field place right ∷ more) h = by_test (nat_eq place f) refl (plain_after f t start there within kept reads_old more (All-tail (AssignedFits scope) (to_field place right) more h))
    where
      v : Value
      v = value_of right old done.args

      by_test : (b : Bool) → nat_eq place f ≡ b → PlainAfter f t start more → PlainAfter f t start (to_field place right ∷ more)
      by_test true e rest =
          let is : place ≡ f = eqb-true place f e in
          let right_fits : FitsSort scope right t = fits_there (slice_get scope.fields place) (one t) (FitsPlain scope right) (ap (slice_get scope.fields) is ∙ there) (All-head (AssignedFits scope) (to_field place right) more h) in
          let now = there_now f (to_field place right) more within e in
          let both = plain_kept t v (slot_at (behind more) f) (value_has_sort scope old done.args fits right t right_fits) rest.stays in
          record {
            stays = subst (FitsKept (one t)) (sym now) both.0;
            is_read = λ r. rw (e, now, both.1) (right_reads t right right_fits r);
          }
      by_test false e rest = plain_same f t start (to_field place right) more e (λ r. rw e refl) rest
  plain_after f t start there within kept reads_old (to_entry place key right ∷ more) h = by_test (nat_eq place f) refl (plain_after f t start there within kept reads_old more (All-tail (AssignedFits scope) (to_entry place key right) more h))
    where
      by_test : (b : Bool) → nat_eq place f ≡ b → PlainAfter f t start more → PlainAfter f t start (to_entry place key right ∷ more)
      by_test true e rest =
          let is : place ≡ f = eqb-true place f e in
          absurd (fits_there (slice_get scope.fields place) (one t) (FitsEntry scope key right) (ap (slice_get scope.fields) is ∙ there) (All-head (AssignedFits scope) (to_entry place key right) more h))
      by_test false e rest = plain_same f t start (to_entry place key right) more e (λ r. rw e refl) rest
  plain_after f t start there within kept reads_old (to_start place ∷ more) h = by_test (nat_eq place f) refl (plain_after f t start there within kept reads_old more (All-tail (AssignedFits scope) (to_start place) more h))
    where
      by_test : (b : Bool) → nat_eq place f ≡ b → PlainAfter f t start more → PlainAfter f t start (to_start place ∷ more)
      by_test true e rest =
          let is : place ≡ f = eqb-true place f e in
          absurd (fits_there (slice_get scope.fields place) (one t) IsTable (ap (slice_get scope.fields) is ∙ there) (All-head (AssignedFits scope) (to_start place) more h))
      by_test false e rest = plain_same f t start (to_start place) more e (λ r. rw e refl) rest

  -- a table at a key
  pub record TableAfter (f : ℕ) (i : Instance) (k t : Sort) (start : Value) (more : List Assigned) : Type 0 where
    pub stays : FitsKept (each k t) (slot_at (behind more) f)
    pub is_read : ReadsValue m (field_after side (is_truth_sort t) start f (Some i) more) (read_table (keys i) (slot_at (behind more) f))

  table_same : (f : ℕ) (i : Instance) (k t : Sort) (start : Value) (a : Assigned) (more : List Assigned) → nat_eq (place_assigned a) f ≡ false → ((r : Reader) → field_after side (is_truth_sort t) start f (Some i) (a ∷ more) r ≡ field_after side (is_truth_sort t) start f (Some i) more r)
      → TableAfter f i k t start more → TableAfter f i k t start (a ∷ more)
  table_same f i k t start a more e same h = record {
    stays = subst (FitsKept (each k t)) (sym (elsewhere_now f a more e)) h.stays;
    is_read = λ r. rw (same r, elsewhere_now f a more e) (h.is_read r);
  }

  pub table_after : (f : ℕ) (i : Instance) (k t : Sort) (start : Value) → StartsAt start (slot_at old f) → k ≢ sort.Bool → slice_get scope.fields f ≡ Some (each k t) → f < length old → HasSort k (keys i) → FitsKept (each k t) (slot_at old f) → ReadsValue m (side.value (Field f) (Some i)) (read_table (keys i) (slot_at old f))
      → (more : List Assigned) → All (AssignedFits scope) more → TableAfter f i k t start more
  table_after f i k t start begins ordered there within key_fits kept reads_old [] h = record { stays = kept; is_read = reads_old }
  table_after f i k t start begins ordered there within key_fits kept reads_old (to_field place right ∷ more) h = by_test (nat_eq place f) refl (table_after f i k t start begins ordered there within key_fits kept reads_old more (All-tail (AssignedFits scope) (to_field place right) more h))
    where
      by_test : (b : Bool) → nat_eq place f ≡ b → TableAfter f i k t start more → TableAfter f i k t start (to_field place right ∷ more)
      by_test true e rest =
          let is : place ≡ f = eqb-true place f e in
          absurd (fits_there (slice_get scope.fields place) (each k t) (FitsPlain scope right) (ap (slice_get scope.fields) is ∙ there) (All-head (AssignedFits scope) (to_field place right) more h))
      by_test false e rest = table_same f i k t start (to_field place right) more e (λ r. rw e refl) rest
  table_after f i k t start begins ordered there within key_fits kept reads_old (to_entry place key right ∷ more) h = by_test (nat_eq place f) refl (table_after f i k t start begins ordered there within key_fits kept reads_old more (All-tail (AssignedFits scope) (to_entry place key right) more h))
    where
      v : Value
      v = value_of right old done.args

      by_test : (b : Bool) → nat_eq place f ≡ b → TableAfter f i k t start more → TableAfter f i k t start (to_entry place key right ∷ more)
      by_test true e rest =
          let is : place ≡ f = eqb-true place f e in
          let entry_fits : FitsEntry scope key right (each k t) = fits_there (slice_get scope.fields place) (each k t) (FitsEntry scope key right) (ap (slice_get scope.fields) is ∙ there) (All-head (AssignedFits scope) (to_entry place key right) more h) in
          let at = argument done.args key in
          let at_fits : HasSort k at = fits.params key k entry_fits.0 in
          let v_fits = value_has_sort scope old done.args fits right t entry_fits.1 in
          let now = there_now f (to_entry place key right) more within e in
          let both = keyed_kept k t at v (keys i) (slot_at (behind more) f) ordered at_fits v_fits rest.stays in
          let test : is_same at (keys i) ≡ int_same (measure (keys i)) (measure at) = keys_equal k at (keys i) ordered at_fits key_fits ∙ same_turned (measure at) (measure (keys i)) in
          let old_value = read_table (keys i) (slot_at (behind more) f) in
          let told : read_table (keys i) (slot_at (behind (to_entry place key right ∷ more)) f) ≡ (if int_same (measure (keys i)) (measure at) then v else old_value) = ap (read_table (keys i)) now ∙ both.1 ∙ ap (λ b. if b then v else old_value) test in
          record {
            stays = subst (FitsKept (each k t)) (sym now) both.0;
            is_read = λ r. rw (e, told) (if_reads m (same_key_read (Some i) key) (right_read side (is_truth_sort t) right) (field_after side (is_truth_sort t) start f (Some i) more) (int_same (measure (keys i)) (measure at)) v old_value
                (sorts_alike t v old_value v_fits (table_has_sort k t (keys i) (slot_at (behind more) f) rest.stays))
                (same_key_reads m keys done params fit means i key) (right_reads t right entry_fits.1) rest.is_read r);
          }
      by_test false e rest = table_same f i k t start (to_entry place key right) more e (λ r. rw e refl) rest
  table_after f i k t start begins ordered there within key_fits kept reads_old (to_start place ∷ more) h = by_test (nat_eq place f) refl (table_after f i k t start begins ordered there within key_fits kept reads_old more (All-tail (AssignedFits scope) (to_start place) more h))
    where
      by_test : (b : Bool) → nat_eq place f ≡ b → TableAfter f i k t start more → TableAfter f i k t start (to_start place ∷ more)
      by_test true e rest =
          let now = there_now f (to_start place) more within e in
          let told : read_table (keys i) (slot_at (behind (to_start place ∷ more)) f) ≡ start =
          ap (read_table (keys i)) now ∙ cleared_read k t start (keys i) (slot_at (behind more) f) rest.stays (starts_behind old done.args start f begins more) in
          record {
            stays = subst (FitsKept (each k t)) (sym now) (cleared_stays k t (slot_at (behind more) f) rest.stays);
            is_read = λ r. rw (e, told) (stays m r _ (λ w q. symbol_has w start));
          }
      by_test false e rest = table_same f i k t start (to_start place) more e (λ r. rw e refl) rest
