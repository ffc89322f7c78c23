-- The places and keys that a condition looks at are those of the type and the design, and what is natural is at least 0.
use Rattle.std.proofs.Common.{◌≡◌, ℕ, suc, ◌+◌, pos, ◌≤ℤ◌, Bool, true, false, if◌then◌else◌, List, [], ◌∷◌, ◌++◌, Option, Some, None, refl, sym, ap, subst, map, arith, All}
use Rattle.std.specs.Prelude.{slice_get}
use Rattle.std.proofs.lemmas.Int.{ints}
use Rattle.std.proofs.lemmas.List.Elements.{All-nil, All-cons, All-head, All-tail, All-append}
use Rattle.kat_num.specs.Values.{HasSort}
use Rattle.kat_num.specs.declared.values.Sort.{Sort}
use Rattle.kat_num.specs.declared.values.Sort.TheVariants as sort
use Rattle.kat_num.specs.declared.values.Value.{Value}
use Rattle.kat_num.specs.declared.values.Value.TheVariants as value
use Rattle.kat_expr.specs.Slots.{entry_at, is_same, read_plain, read_table, slot_at}
use Rattle.kat_expr.specs.Sorts.{FitsKept}
use Rattle.kat_expr.specs.Sorts.Kept.{one, each}
use Rattle.kat_expr.specs.declared.expressions.Slot.{Slot}
use Rattle.kat_expr.specs.declared.expressions.Slot.TheVariants.{Plain, Keyed}
use Rattle.kat_type.specs.Fits.{kept_of}
use Rattle.kat_type.specs.Types.{TypeForm}
use Rattle.kat_type.specs.declared.types.Field.{Field as TypeField}
use Rattle.kat_type.specs.declared.types.Field.TheVariants as field
use Rattle.kat_seq.specs.Sorts.{KeepsFields}
use Rattle.kat_design.specs.Designs.{ComponentForm, DesignForm}
use Rattle.kat_design.specs.Faults.{is_sort}
use Rattle.kat_design.specs.Kinds.{component_kinds, is_kind, key_sort}
use Rattle.kat_design.specs.declared.kinds.Kind.{Kind}
use Rattle.kat_design.specs.declared.kinds.Kind.TheVariants as kind
use Rattle.kat_claims.specs.declared.spots.Spot.{Spot}
use Rattle.kat_claims.specs.Places.{is_natural, field_spot, field_spots, leaf_spots, component_spots, spots_of, same_key, places_by, instances_of, each_some, looked_at, at_key, at_each, at_sort, all_looked_at}
use Rattle.kat_symbols.specs.declared.names.Instance.{Instance}
use Rattle.kat_symbols.specs.declared.names.Place.{Place}
use Rattle.kat_symbols.specs.declared.names.Place.TheVariants.{Field, Leaf}
use Rattle.kat_invariant.specs.Legal.{HoldsParts}
use Rattle.kat_invariant.specs.Situations.{Situation, leaf_in}
use Rattle.kat_invariant.proofs.LeafKinds.{kind_name, leaf_has_kind}
use Rattle.kat_invariant.proofs.Logic.{measure}
use Rattle.kat_invariant.proofs.Situated.{IsAt, IsKeyAt, key_at as key_value, place_value}

pub sorts_same : (a b : Sort) → is_sort a b ≡ true → a ≡ b
sorts_same sort.Bool sort.Bool e = refl
sorts_same sort.Int sort.Int e = refl
sorts_same sort.Nat sort.Nat e = refl
sorts_same sort.Name sort.Name e = refl
sorts_same sort.Bool sort.Int e = absurd (cc)
sorts_same sort.Bool sort.Nat e = absurd (cc)
sorts_same sort.Bool sort.Name e = absurd (cc)
sorts_same sort.Int sort.Bool e = absurd (cc)
sorts_same sort.Int sort.Nat e = absurd (cc)
sorts_same sort.Int sort.Name e = absurd (cc)
sorts_same sort.Nat sort.Bool e = absurd (cc)
sorts_same sort.Nat sort.Int e = absurd (cc)
sorts_same sort.Nat sort.Name e = absurd (cc)
sorts_same sort.Name sort.Bool e = absurd (cc)
sorts_same sort.Name sort.Int e = absurd (cc)
sorts_same sort.Name sort.Nat e = absurd (cc)

pub keys_same : (a b : Option Sort) → same_key a b ≡ true → a ≡ b
keys_same None None e = refl
keys_same (Some a) (Some b) e = ap Some (sorts_same a b e)
keys_same None (Some b) e = absurd (cc)
keys_same (Some a) None e = absurd (cc)

-- the values at a table's keys have its sort
entry_sort : (s : Sort) (key start : Value) (entries : List (Value × Value)) → HasSort s start → All (λ (e : Value × Value). HasSort s e.1) entries → HasSort s (entry_at key start entries)
entry_sort s key start [] h all = h
entry_sort s key start (e ∷ entries) h all = by_test (is_same e.0 key) (entry_sort s key start entries h (All-tail (λ (e' : Value × Value). HasSort s e'.1) e entries all))
  where
    by_test : (b : Bool) → HasSort s (entry_at key start entries) → HasSort s (if b then e.1 else entry_at key start entries)
    by_test true rest = All-head (λ (e' : Value × Value). HasSort s e'.1) e entries all
    by_test false rest = rest

second : (key s : Sort) (entries : List (Value × Value)) → All (λ (e : Value × Value). HasSort key e.0 × HasSort s e.1) entries → All (λ (e : Value × Value). HasSort s e.1) entries
second key s entries all = λ k d lt. (all k d lt).1

pub plain_has_sort : (s : Sort) (slot : Slot) → FitsKept (one s) slot → HasSort s (read_plain slot)
plain_has_sort s (Plain v) h = h
plain_has_sort s (Keyed start entries) h = absurd h

pub table_has_sort : (key s : Sort) (at : Value) (slot : Slot) → FitsKept (each key s) slot → HasSort s (read_table at slot)
table_has_sort key s at (Plain v) h = absurd h
table_has_sort key s at (Keyed start entries) h = entry_sort s at start entries h.0 (second key s entries h.1)

-- a natural number and a name are at least 0
pub natural_least : (s : Sort) (v : Value) → is_natural s ≡ true → HasSort s v → pos 0 ≤ℤ measure v
natural_least sort.Bool v e h = absurd (cc)
natural_least sort.Int v e h = absurd (cc)
natural_least sort.Nat (value.Num z) e h = h
natural_least sort.Nat (value.Bool b) e h = absurd h
natural_least sort.Nat (value.Name n) e h = absurd h
natural_least sort.Name (value.Name n) e h = omega (arith, ints)
natural_least sort.Name (value.Bool b) e h = absurd h
natural_least sort.Name (value.Num z) e h = absurd h

is_name_kind : (k : Kind) → is_kind k kind.Name ≡ true → k ≡ kind.Name
is_name_kind kind.Name e = refl
is_name_kind kind.Number e = absurd (cc)
is_name_kind kind.Truth e = absurd (cc)

module _ (ty : TypeForm) (d : DesignForm) (keys : Instance → Value) where
  -- a spot has the keys of its sort
  pub record IsSpot (spot : Spot) : Type 0 where
    pub at : (i : Option Instance) → IsKeyAt keys spot.key i → IsAt ty d keys spot.place i
    pub natural : (s : Situation) → KeepsFields ty s.state → HoldsParts d s.held → spot.natural ≡ true → (i : Option Instance) → IsKeyAt keys spot.key i → pos 0 ≤ℤ measure (place_value s keys spot.place i)

  field_is_spot : (f : ℕ) (x : TypeField) → slice_get (map kept_of ty.fields) f ≡ Some (kept_of x) → IsSpot (field_spot f x)
  field_is_spot f (field.Plain name s start) there = record { at = plain_at; natural = plain_natural }
    where
      plain_at : (i : Option Instance) → IsKeyAt keys None i → IsAt ty d keys (Field f) i
      plain_at None h = (s, there)
      plain_at (Some i) h = absurd h

      plain_natural : (q : Situation) → KeepsFields ty q.state → HoldsParts d q.held → is_natural s ≡ true → (i : Option Instance) → IsKeyAt keys None i → pos 0 ≤ℤ measure (place_value q keys (Field f) i)
      plain_natural q keeps parts e None h = natural_least s (read_plain (slot_at q.state f)) e (plain_has_sort s (slot_at q.state f) (keeps f (one s) there))
      plain_natural q keeps parts e (Some i) h = absurd h
  field_is_spot f (field.Keyed name key s start) there = record { at = table_at; natural = table_natural }
    where
      table_at : (i : Option Instance) → IsKeyAt keys (Some key) i → IsAt ty d keys (Field f) i
      table_at None h = absurd h
      table_at (Some i) h = record { key = key; sort = s; there = there; fits = h }

      table_natural : (q : Situation) → KeepsFields ty q.state → HoldsParts d q.held → is_natural s ≡ true → (i : Option Instance) → IsKeyAt keys (Some key) i → pos 0 ≤ℤ measure (place_value q keys (Field f) i)
      table_natural q keeps parts e None h = absurd h
      table_natural q keeps parts e (Some i) h = natural_least s (read_table (keys i) (slot_at q.state f)) e (table_has_sort key s (keys i) (slot_at q.state f) (keeps f (each key s) there))

  leaf_is_spot : (c l : ℕ) (component : ComponentForm) (k : Kind) → slice_get d.components c ≡ Some component → slice_get (component_kinds component) l ≡ Some k
      → IsSpot (record { place = Leaf c l; key = key_sort component; natural = is_kind k kind.Name })
  leaf_is_spot c l component k there found = record {
    at = λ i h. record { component = component; kind = k; there = there; found = found; fits = h };
    natural = λ q keeps parts e i h.
        let v = leaf_in (q.held c (key_value keys i)) l in
        natural_least sort.Name v refl (kind_name v k (leaf_has_kind component (q.held c (key_value keys i)) l k (parts c component there (key_value keys i)) found) (is_name_kind k e));
  }

  -- the rest of a list from a place on
  abbrev From : {X : Type 0} → List X → ℕ → List X → Type 0
  From {X} all from rest = (i : ℕ) (x : X) → slice_get rest i ≡ Some x → slice_get all (from + i) ≡ Some x

  from_head : {X : Type 0} (all : List X) (from : ℕ) (x : X) (rest : List X) → From all from (x ∷ rest) → slice_get all from ≡ Some x
  from_head all from x rest h = subst (λ n. slice_get all n ≡ Some x) (omega arith) (h 0 x refl)

  from_tail : {X : Type 0} (all : List X) (from : ℕ) (x : X) (rest : List X) → From all from (x ∷ rest) → From all (suc from) rest
  from_tail all from x rest h i y e = subst (λ n. slice_get all n ≡ Some y) (omega arith) (h (suc i) y e)

  from_start : {X : Type 0} (all : List X) → From all 0 all
  from_start all i x e = subst (λ n. slice_get all n ≡ Some x) (omega arith) e

  fields_are_spots : (f : ℕ) (xs : List TypeField) → From (map kept_of ty.fields) f (map kept_of xs) → All IsSpot (field_spots f xs)
  fields_are_spots f [] h = All-nil IsSpot
  fields_are_spots f (x ∷ xs) h = All-cons IsSpot (field_spot f x) (field_spots (suc f) xs) (field_is_spot f x (from_head (map kept_of ty.fields) f (kept_of x) (map kept_of xs) h))
      (fields_are_spots (suc f) xs (from_tail (map kept_of ty.fields) f (kept_of x) (map kept_of xs) h))

  leaves_are_spots : (c : ℕ) (component : ComponentForm) → slice_get d.components c ≡ Some component → (l : ℕ) (ks : List Kind) → From (component_kinds component) l ks → All IsSpot (leaf_spots c (key_sort component) l ks)
  leaves_are_spots c component there l [] h = All-nil IsSpot
  leaves_are_spots c component there l (k ∷ ks) h = All-cons IsSpot _ (leaf_spots c (key_sort component) (suc l) ks) (leaf_is_spot c l component k there (from_head (component_kinds component) l k ks h))
      (leaves_are_spots c component there (suc l) ks (from_tail (component_kinds component) l k ks h))

  components_are_spots : (c : ℕ) (xs : List ComponentForm) → From d.components c xs → All IsSpot (component_spots c xs)
  components_are_spots c [] h = All-nil IsSpot
  components_are_spots c (x ∷ xs) h = All-append IsSpot (leaf_spots c (key_sort x) 0 (component_kinds x)) (component_spots (suc c) xs)
      (leaves_are_spots c x (from_head d.components c x xs h) 0 (component_kinds x) (from_start (component_kinds x)))
      (components_are_spots (suc c) xs (from_tail d.components c x xs h))

  pub all_fields_are_spots : All IsSpot (field_spots 0 ty.fields)
  all_fields_are_spots = fields_are_spots 0 ty.fields (from_start (map kept_of ty.fields))

  pub all_leaves_are_spots : All IsSpot (component_spots 0 d.components)
  all_leaves_are_spots = components_are_spots 0 d.components (from_start d.components)

  pub all_are_spots : All IsSpot (spots_of ty d)
  all_are_spots = All-append IsSpot (field_spots 0 ty.fields) (component_spots 0 d.components) all_fields_are_spots all_leaves_are_spots

  -- places that are kept by a key
  abbrev pub StandsAt : Option Sort → Place → Type 0
  StandsAt key place = (i : Option Instance) → IsKeyAt keys key i → IsAt ty d keys place i

  pub places_stand : (key : Option Sort) (spots : List Spot) → All IsSpot spots → All (StandsAt key) (places_by key spots)
  places_stand key [] h = All-nil (StandsAt key)
  places_stand key (s ∷ ss) h = by_test (same_key key s.key) refl (places_stand key ss (All-tail IsSpot s ss h))
    where
      by_test : (b : Bool) → same_key key s.key ≡ b → All (StandsAt key) (places_by key ss) → All (StandsAt key) (if b then s.place ∷ places_by key ss else places_by key ss)
      by_test true e rest = All-cons (StandsAt key) s.place (places_by key ss) (subst (λ k. StandsAt k s.place) (sym (keys_same key s.key e)) (All-head IsSpot s ss h).at) rest
      by_test false e rest = rest

  -- keys of their sorts
  abbrev pub IsKeyOf : Sort × Instance → Type 0
  IsKeyOf k = HasSort k.0 (keys k.1)

  pub instances_fit : (s : Sort) (ks : List (Sort × Instance)) → All IsKeyOf ks → All (λ i. HasSort s (keys i)) (instances_of s ks)
  instances_fit s [] h = All-nil (λ i. HasSort s (keys i))
  instances_fit s (k ∷ ks) h = by_test (is_sort s k.0) refl (instances_fit s ks (All-tail IsKeyOf k ks h))
    where
      by_test : (b : Bool) → is_sort s k.0 ≡ b → All (λ i. HasSort s (keys i)) (instances_of s ks) → All (λ i. HasSort s (keys i)) (if b then k.1 ∷ instances_of s ks else instances_of s ks)
      by_test true e rest = All-cons (λ i. HasSort s (keys i)) k.1 (instances_of s ks) (subst (λ t. HasSort t (keys k.1)) (sym (sorts_same s k.0 e)) (All-head IsKeyOf k ks h)) rest
      by_test false e rest = rest

  each_fits : (s : Sort) (is : List Instance) → All (λ i. HasSort s (keys i)) is → All (IsKeyAt keys (Some s)) (each_some is)
  each_fits s [] h = All-nil (IsKeyAt keys (Some s))
  each_fits s (i ∷ is) h = All-cons (IsKeyAt keys (Some s)) (Some i) (each_some is) (All-head (λ j. HasSort s (keys j)) i is h) (each_fits s is (All-tail (λ j. HasSort s (keys j)) i is h))

  pub looked_fit : (key : Option Sort) (ks : List (Sort × Instance)) → All IsKeyOf ks → All (IsKeyAt keys key) (looked_at key ks)
  looked_fit None ks h = All-cons (IsKeyAt keys None) None [] tt (All-nil (IsKeyAt keys None))
  looked_fit (Some s) ks h = each_fits s (instances_of s ks) (instances_fit s ks h)

  -- all that a condition looks at is there
  abbrev pub IsThere : Place × Option Instance → Type 0
  IsThere p = IsAt ty d keys p.0 p.1

  at_key_there : (key : Option Sort) (i : Option Instance) → IsKeyAt keys key i → (places : List Place) → All (StandsAt key) places → All IsThere (at_key i places)
  at_key_there key i fits [] h = All-nil IsThere
  at_key_there key i fits (p ∷ ps) h = All-cons IsThere (p, i) (at_key i ps) (All-head (StandsAt key) p ps h i fits) (at_key_there key i fits ps (All-tail (StandsAt key) p ps h))

  at_each_there : (s : Sort) (is : List Instance) → All (λ i. HasSort s (keys i)) is → (places : List Place) → All (StandsAt (Some s)) places → All IsThere (at_each is places)
  at_each_there s [] fits places h = All-nil IsThere
  at_each_there s (i ∷ is) fits places h = All-append IsThere (at_key (Some i) places) (at_each is places) (at_key_there (Some s) (Some i) (All-head (λ j. HasSort s (keys j)) i is fits) places h)
      (at_each_there s is (All-tail (λ j. HasSort s (keys j)) i is fits) places h)

  at_sort_there : (s : Sort) (spots : List Spot) (ks : List (Sort × Instance)) → All IsSpot spots → All IsKeyOf ks → All IsThere (at_sort s spots ks)
  at_sort_there s spots ks h fits = at_each_there s (instances_of s ks) (instances_fit s ks fits) (places_by (Some s) spots) (places_stand (Some s) spots h)

  pub all_there : (spots : List Spot) (ks : List (Sort × Instance)) → All IsSpot spots → All IsKeyOf ks → All IsThere (all_looked_at spots ks)
  all_there spots ks h fits =
      All-append IsThere (at_key None (places_by None spots) ++ at_sort sort.Int spots ks ++ at_sort sort.Nat spots ks) (at_sort sort.Name spots ks)
      (All-append IsThere (at_key None (places_by None spots) ++ at_sort sort.Int spots ks) (at_sort sort.Nat spots ks)
      (All-append IsThere (at_key None (places_by None spots)) (at_sort sort.Int spots ks) (at_key_there None None tt (places_by None spots) (places_stand None spots h)) (at_sort_there sort.Int spots ks h fits))
      (at_sort_there sort.Nat spots ks h fits))
      (at_sort_there sort.Name spots ks h fits)
