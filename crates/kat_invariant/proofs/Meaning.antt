-- What names stand for in a situation, and the sides before an operation and at the start.
use Rattle.std.proofs.Common.{◌≡◌, ℕ, zero, suc, pos, Bool, true, false, List, [], ◌∷◌, Option, Some, None, refl, sym, ap, subst, ◌∙◌, map}
use Rattle.std.specs.Prelude.{slice_get}
use Rattle.kat_num.specs.Values.{HasSort}
use Rattle.kat_num.specs.declared.values.Sort.{Sort}
use Rattle.kat_num.specs.declared.values.Sort.TheVariants as sort
use Rattle.kat_num.specs.declared.values.Value.{Value}
use Rattle.kat_num.specs.declared.values.Value.TheVariants as value
use Rattle.kat_expr.specs.Slots.{absent, argument, read_plain, read_table, slot_at}
use Rattle.kat_expr.specs.Sorts.{Kept as KeptSort}
use Rattle.kat_expr.specs.Sorts.Kept.{one, each}
use Rattle.kat_type.specs.Fits.{kept_of}
use Rattle.kat_type.specs.Types.{TypeForm}
use Rattle.kat_type.specs.declared.types.Field.{Field as TypeField}
use Rattle.kat_type.specs.declared.types.Field.TheVariants as field
use Rattle.kat_seq.specs.Sorts.{KeepsFields}
use Rattle.kat_seq.specs.States.{start_slot}
use Rattle.kat_seq.proofs.Sorting.{got_made}
use Rattle.kat_shape.proofs.Filling.{filled_leaves}
use Rattle.kat_design.specs.Designs.{ComponentForm, DesignForm}
use Rattle.kat_design.specs.Designs.ComponentForm.{a_cell, a_table, a_set, a_tally, tallies}
use Rattle.kat_design.specs.Kinds.{leaf_kind, value_kind}
use Rattle.kat_design.specs.Sorted.{EachHas, IsComponent, IsWellSorted}
use Rattle.kat_design.proofs.SmallDesigns.{starts_fit}
use Rattle.kat_form.specs.Facts.Fact.{known}
use Rattle.kat_design.specs.declared.kinds.Kind.{Kind}
use Rattle.kat_design.specs.declared.kinds.Kind.TheVariants as kind
use Rattle.kat_claims.specs.States.{field_start, is_truth_at, is_truth_field, is_truth_kind, is_truth_sort, leaf_start, old_side, start_at, start_side}
use Rattle.kat_symbols.specs.Symbols.{symbol_of}
use Rattle.kat_symbols.specs.declared.names.Instance.{Instance}
use Rattle.kat_symbols.specs.declared.names.Instance.TheVariants.{Claim, Argument}
use Rattle.kat_symbols.specs.declared.names.Name.{Name}
use Rattle.kat_symbols.specs.declared.names.Name.TheVariants.{Key, Kept, Effect, Begun, Element, LastTime, LastReplica, Time, Replica}
use Rattle.kat_symbols.specs.declared.names.Place.{Place}
use Rattle.kat_symbols.specs.declared.names.Place.TheVariants.{Field, Leaf}
use Rattle.kat_invariant.specs.Legal.{HoldsParts}
use Rattle.kat_invariant.specs.Situations.{Last, Situation, held_start, leaf_in, start_of, starts_of}
use Rattle.kat_invariant.proofs.Having.{IsNumber, IsTruth, ReadsValue, known_has, symbol_has, variable_reads}
use Rattle.kat_invariant.proofs.LeafKinds.{kind_truth, leaf_has_kind, ordered_number}
use Rattle.kat_invariant.proofs.Logic.{Meant, HasTruth, Means, stays, reads_flag, reads_name}
use Rattle.kat_invariant.proofs.Situated.{IsAt, IsLeaf, IsSide, element_of, is_begun, key_at, place_value}
use Rattle.kat_invariant.proofs.Spots.{plain_has_sort, table_has_sort}

abbrev pub keys_at : Value → List Value → Instance → Value
keys_at k args Claim = k
keys_at k args (Argument j) = argument args j

abbrev pub time_of : Option Last → ℕ
time_of None = 0
time_of (Some last) = last.time

abbrev pub replica_of : Option Last → ℕ
replica_of None = 0
replica_of (Some last) = last.replica

-- the values of names, with the time and the replica of the operation that is done
abbrev pub names_now : Situation → (Instance → Value) → ℕ → ℕ → Name → Value
names_now s keys time replica (Key i) = keys i
names_now s keys time replica (Kept place at) = place_value s keys place at
names_now s keys time replica (Effect c l) = absent
names_now s keys time replica Begun = value.Bool (is_begun s.last)
names_now s keys time replica (Element j) = element_of s.last j
names_now s keys time replica LastTime = value.Num (pos (time_of s.last))
names_now s keys time replica LastReplica = value.Num (pos (replica_of s.last))
names_now s keys time replica Time = value.Num (pos time)
names_now s keys time replica Replica = value.Num (pos replica)

pub truth_by_sort : (s : Sort) (v : Value) → HasSort s v → is_truth_sort s ≡ true → IsTruth v
truth_by_sort sort.Bool (value.Bool b) h e = tt
truth_by_sort sort.Bool (value.Num b) h e = absurd h
truth_by_sort sort.Bool (value.Name b) h e = absurd h
truth_by_sort sort.Int v h e = absurd (cc)
truth_by_sort sort.Nat v h e = absurd (cc)
truth_by_sort sort.Name v h e = absurd (cc)

pub number_by_sort : (s : Sort) (v : Value) → HasSort s v → is_truth_sort s ≡ false → IsNumber v
number_by_sort sort.Bool v h e = absurd (cc)
number_by_sort sort.Int (value.Num z) h e = tt
number_by_sort sort.Int (value.Bool z) h e = absurd h
number_by_sort sort.Int (value.Name z) h e = absurd h
number_by_sort sort.Nat (value.Num z) h e = tt
number_by_sort sort.Nat (value.Bool z) h e = absurd h
number_by_sort sort.Nat (value.Name z) h e = absurd h
number_by_sort sort.Name (value.Name z) h e = tt
number_by_sort sort.Name (value.Bool z) h e = absurd h
number_by_sort sort.Name (value.Num z) h e = absurd h

pub truth_by_kind : (v : Value) (k : Kind) → value_kind v ≡ k → is_truth_kind (Some k) ≡ true → IsTruth v
truth_by_kind v kind.Truth e t = kind_truth v kind.Truth e refl
truth_by_kind v kind.Number e t = absurd (cc)
truth_by_kind v kind.Name e t = absurd (cc)

pub number_by_kind : (v : Value) (k : Kind) → value_kind v ≡ k → is_truth_kind (Some k) ≡ false → IsNumber v
number_by_kind v kind.Truth e t = absurd (cc)
number_by_kind v kind.Number e t = ordered_number v kind.Number e tt
number_by_kind v kind.Name e t = ordered_number v kind.Name e tt

-- a value is a truth value if and only if its place says so
pub record OfKind (b : Bool) (v : Value) : Type 0 where
  pub truth : b ≡ true → IsTruth v
  pub number : b ≡ false → IsNumber v

abbrev pub sort_kept : KeptSort → Sort
sort_kept (one s) = s
sort_kept (each key s) = s

field_sort : (x : TypeField) → is_truth_field (Some x) ≡ is_truth_sort (sort_kept (kept_of x))
field_sort (field.Plain name s start) = refl
field_sort (field.Keyed name key s start) = refl

module _ (ty : TypeForm) (d : DesignForm) (s : Situation) (keeps : KeepsFields ty s.state) (parts : HoldsParts d s.held) (keys : Instance → Value) where
  -- the truth of a field's sort
  pub field_truth : (f : ℕ) (k : KeptSort) → slice_get (map kept_of ty.fields) f ≡ Some k → is_truth_field (slice_get ty.fields f) ≡ is_truth_sort (sort_kept k)
  field_truth f k there =
      let made = got_made kept_of ty.fields f k there in
      ap is_truth_field made.1 ∙ field_sort made.0 ∙ ap (λ q. is_truth_sort (sort_kept q)) made.2

  pub field_has_sort : (f : ℕ) (at : Option Instance) → IsAt ty d keys (Field f) at → (q : Sort) × HasSort q (place_value s keys (Field f) at) × (is_truth_at ty d (Field f) ≡ is_truth_sort q)
  field_has_sort f None h = (h.0, plain_has_sort h.0 (slot_at s.state f) (keeps f (one h.0) h.1), field_truth f (one h.0) h.1)
  field_has_sort f (Some i) h = (h.sort, table_has_sort h.key h.sort (keys i) (slot_at s.state f) (keeps f (each h.key h.sort) h.there), field_truth f (each h.key h.sort) h.there)

  pub leaf_has_truth : (c l : ℕ) (at : Option Instance) → (h : IsLeaf d keys c l at) → (value_kind (place_value s keys (Leaf c l) at) ≡ h.kind) × (is_truth_at ty d (Leaf c l) ≡ is_truth_kind (Some h.kind))
  leaf_has_truth c l at h = (
    leaf_has_kind h.component (s.held c (key_at keys at)) l h.kind (parts c h.component h.there (key_at keys at)) h.found,
    ap (λ o. is_truth_kind (leaf_kind o l)) h.there ∙ ap is_truth_kind h.found,
  )

  pub kind_at_place : (place : Place) (at : Option Instance) → IsAt ty d keys place at → OfKind (is_truth_at ty d place) (place_value s keys place at)
  kind_at_place (Field f) at h =
      let told = field_has_sort f at h in
      record { truth = λ e. truth_by_sort told.0 _ told.1 (sym told.2 ∙ e); number = λ e. number_by_sort told.0 _ told.1 (sym told.2 ∙ e) }
  kind_at_place (Leaf c l) at h =
      let told = leaf_has_truth c l at h in
      record { truth = λ e. truth_by_kind _ h.kind told.0 (sym told.1 ∙ e); number = λ e. number_by_kind _ h.kind told.0 (sym told.1 ∙ e) }

  module _ (time replica : ℕ) (later : Name → Value) where
    abbrev now_meant : Meant
    now_meant = record { now = names_now s keys time replica; later = later }

    pub old_is_side : IsSide ty d now_meant (old_side ty d) s keys
    old_is_side = record {
      value = λ place at h. let told = kind_at_place place at h in variable_reads now_meant (is_truth_at ty d place) (Kept place at) told.truth told.number;
      begun = λ r. reads_flag now_meant Begun r;
      element = λ j r. reads_name now_meant (Element j) r;
    }

-- the starts of fields and of leaves
got_start : (fields : List TypeField) (f : ℕ) (x : TypeField) → slice_get fields f ≡ Some x → slot_at (map start_slot fields) f ≡ start_slot x
got_start [] f x e = absurd (cc)
got_start (y ∷ fields) zero x e = let is : y ≡ x = cc in ap start_slot is
got_start (y ∷ fields) (suc f) x e = got_start fields f x e

pub each_has : {A : Type 0} (P : A → Type 0) (xs : List A) (i : ℕ) (x : A) → EachHas P xs → slice_get xs i ≡ Some x → P x
each_has P [] i x h e = absurd (cc)
each_has P (y ∷ ys) zero x h e = let is : y ≡ x = cc in subst P is h.0
each_has P (y ∷ ys) (suc i) x h e = each_has P ys i x h.1 e

pub component_is : (d : DesignForm) (c : ℕ) (component : ComponentForm) → IsWellSorted d → slice_get d.components c ≡ Some component → IsComponent d.sig.ops component
component_is d c component sorted there = each_has (IsComponent d.sig.ops) d.components c component sorted.components there

start_of_component : (d : DesignForm) (component : ComponentForm) (l : ℕ) → IsComponent d.sig.ops component → leaf_in (held_start component) l ≡ leaf_start (Some component) l
start_of_component d (a_cell shape starts effects) l h = ap (λ (vs : List Value). argument vs l) (filled_leaves shape starts (starts_fit shape starts h.1))
start_of_component d (a_table key shape starts effects) l h = ap (λ (vs : List Value). argument vs l) (filled_leaves shape starts (starts_fit shape starts h.2))
start_of_component d (a_set key effects) l h = refl
start_of_component d (a_tally effects) l h = refl
start_of_component d (tallies key effects) l h = refl

module _ (ty : TypeForm) (d : DesignForm) (sorted : IsWellSorted d) (keys : Instance → Value) where
  abbrev the_start : Situation
  the_start = start_of ty d

  plain_start : (f : ℕ) (s : Sort) (x : TypeField) → slice_get ty.fields f ≡ Some x → kept_of x ≡ one s → place_value the_start keys (Field f) None ≡ field_start (Some x)
  plain_start f s (field.Plain name q start) there is = ap read_plain (got_start ty.fields f (field.Plain name q start) there)
  plain_start f s (field.Keyed name key q start) there is = absurd (cc)

  keyed_start : (f : ℕ) (i : Instance) (key s : Sort) (x : TypeField) → slice_get ty.fields f ≡ Some x → kept_of x ≡ each key s → place_value the_start keys (Field f) (Some i) ≡ field_start (Some x)
  keyed_start f i key s (field.Keyed name k q start) there is = ap (λ slot. read_table (keys i) slot) (got_start ty.fields f (field.Keyed name k q start) there)
  keyed_start f i key s (field.Plain name q start) there is = absurd (cc)

  pub start_is : (place : Place) (at : Option Instance) → IsAt ty d keys place at → place_value the_start keys place at ≡ start_at ty d place
  start_is (Field f) None h = let made = got_made kept_of ty.fields f (one h.0) h.1 in plain_start f h.0 made.0 made.1 made.2 ∙ sym (ap field_start made.1)
  start_is (Field f) (Some i) h = let made = got_made kept_of ty.fields f (each h.key h.sort) h.there in keyed_start f i h.key h.sort made.0 made.1 made.2 ∙ sym (ap field_start made.1)
  start_is (Leaf c l) at h =
      ap (λ o. leaf_in (starts_of o) l) h.there ∙ start_of_component d h.component l (component_is d c h.component sorted h.there) ∙ sym (ap (λ o. leaf_start o l) h.there)

  -- a start is read as what it is, whatever else is meant
  pub start_reads : (m : Meant) (place : Place) (at : Option Instance) → IsAt ty d keys place at → ReadsValue m ((start_side ty d).value place at) (place_value the_start keys place at)
  start_reads m place at h r = stays m r _ (λ w f. subst (λ v. Means (symbol_of (start_at ty d place)) v w) (sym (start_is place at h)) (symbol_has w (start_at ty d place)))

  pub start_is_side : (time replica : ℕ) (later : Name → Value) → IsSide ty d (record { now = names_now the_start keys time replica; later = later }) (start_side ty d) the_start keys
  start_is_side time replica later = record {
    value = start_reads (record { now = names_now the_start keys time replica; later = later });
    begun = λ r. stays _ r (HasTruth (known false) false) (λ w f. known_has w false);
    element = λ j r. reads_name _ (Element j) r;
  }
