-- How many slots a condition takes at most: the lists that it goes through are short, except for the relation.
use Rattle.std.proofs.Common.{◌≡◌, ℕ, suc, ◌+◌, ◌*◌, ◌≤◌, Bool, true, false, List, [], ◌∷◌, ◌++◌, length, drop, refl, ap, arith, length-append, Option, None, Some}
use Rattle.std.specs.Prelude.{◌&&◌, ◌^◌, if◌then◌else◌, sum_by}
use Rattle.std.proofs.lemmas.Bool.{and_parts}
use Rattle.std.proofs.lemmas.List.{length-drop, length-map}
use Rattle.std.proofs.lemmas.List.Sums.{sum_by-cons}
use Rattle.std.proofs.lemmas.Nat.{mul-le}
use Rattle.kat_num.specs.declared.values.Sort.{Sort}
use Rattle.kat_num.specs.declared.values.Sort.TheVariants as sort
use Rattle.kat_shape.specs.Forms.{CellForm, numbers, names, truths, lex, pair, nodes_of}
use Rattle.kat_design.specs.Designs.{ComponentForm, DesignForm}
use Rattle.kat_design.specs.Designs.ComponentForm.{a_cell, a_table, a_set, a_tally, tallies}
use Rattle.kat_design.specs.Faults.{is_sort}
use Rattle.kat_design.specs.Kinds.{component_kinds, key_sort, kinds_of}
use Rattle.kat_design.specs.Sizes.{component_size, size_of}
use Rattle.kat_design.specs.declared.kinds.Kind.{Kind}
use Rattle.kat_relation.specs.Fits.{FitsConjunct, are_apart, are_of, as_ranked, element_kind, has_rising_leaves, match_elements, rank_kinds, ref_kind, same_kind}
use Rattle.std.specs.Prelude.{option_map, slice_get}
use Rattle.kat_relation.specs.Keys.{conjunct_key}
use Rattle.kat_relation.specs.declared.relations.Conjunct.{Conjunct}
use Rattle.kat_relation.specs.declared.relations.Conjunct.TheVariants.{Query, Equal, Bounded, AtLeast, Matched, Total}
use Rattle.kat_relation.specs.declared.relations.LeafRef.{LeafRef}
use Rattle.kat_type.specs.Types.{OperationForm, QueryForm, TypeForm}
use Rattle.kat_type.specs.declared.types.Field.{Field as TypeField}
use Rattle.kat_type.specs.declared.types.Param.{Param}
use Rattle.kat_vc.specs.Conditions.{Condition, answers_of_each, conditions, starts, steps, steps_of_each}
use Rattle.kat_vc.specs.Conditions.Condition.{start, step, answers}
use Rattle.kat_claims.specs.Places.{all_looked_at, all_natural, argument_keys, at_each, at_key, at_sort, claim_keys, component_spots, each_some, field_spots, instances_of, is_natural, keys_of, leaf_spots, looked_at, names_at, natural_keys, natural_kept, places_by, same_key, spots_of}
use Rattle.kat_claims.specs.declared.spots.Spot.{Spot}
use Rattle.kat_symbols.specs.declared.names.Instance.{Instance}
use Rattle.kat_symbols.specs.declared.names.Name.{Name}
use Rattle.kat_symbols.specs.declared.names.Name.TheVariants.{Key}
use Rattle.kat_symbols.specs.declared.names.Place.{Place}
use Rattle.kat_bounds.proofs.Facts.{Every, every_append}
use Rattle.kat_bounds.proofs.Sides.{value_slots, value_some}
use Rattle.kat_bounds.proofs.Claims.{claim_cost, elements_cost}
use Rattle.kat_bounds.proofs.Groups.{claims_cost, conjunct_cost, ranks_cost, relation_cost, sort_cost, two_cost, with_cost}
use Rattle.kat_bounds.proofs.Conditions.{condition_cost, kept_cost, state_cost}

-- keys
argument_count : (j : ℕ) (params : List Param) → length (argument_keys j params) ≡ length params
argument_count j [] = refl
argument_count j (p ∷ params) = ap suc (argument_count (suc j) params)

claim_few : (claim : Option Sort) → length (claim_keys claim) ≤ 1
claim_few None = omega arith
claim_few (Some s) = omega arith

keys_few : (claim : Option Sort) (params : List Param) → length params ≤ 4 → length (keys_of claim params) ≤ 5
keys_few claim params few = omega (arith, length-append (claim_keys claim) (argument_keys 0 params), claim_few claim, argument_count 0 params, few)

instances_few : (s : Sort) (keys : List (Sort × Instance)) → length (instances_of s keys) ≤ length keys
instances_few s [] = omega arith
instances_few s (k ∷ keys) = by_test (is_sort s k.0) (instances_few s keys)
  where
    by_test : (b : Bool) → length (instances_of s keys) ≤ length keys → length (if b then k.1 ∷ instances_of s keys else instances_of s keys) ≤ length (k ∷ keys)
    by_test true h = omega (arith, h)
    by_test false h = omega (arith, h)

some_count : (keys : List Instance) → length (each_some keys) ≡ length keys
some_count [] = refl
some_count (i ∷ keys) = ap suc (some_count keys)

looked_few : (key : Option Sort) (keys : List (Sort × Instance)) → length keys ≤ 5 → length (looked_at key keys) ≤ 5
looked_few None keys few = omega arith
looked_few (Some s) keys few = omega (arith, some_count (instances_of s keys), instances_few s keys, few)

-- places
places_few : (key : Option Sort) (spots : List Spot) → length (places_by key spots) ≤ length spots
places_few key [] = omega arith
places_few key (s ∷ spots) = by_test (same_key key s.key) (places_few key spots)
  where
    by_test : (b : Bool) → length (places_by key spots) ≤ length spots → length (if b then s.place ∷ places_by key spots else places_by key spots) ≤ length (s ∷ spots)
    by_test true h = omega (arith, h)
    by_test false h = omega (arith, h)

field_count : (f : ℕ) (fields : List TypeField) → length (field_spots f fields) ≡ length fields
field_count f [] = refl
field_count f (x ∷ fields) = ap suc (field_count (suc f) fields)

leaf_count : (c : ℕ) (key : Option Sort) (l : ℕ) (kinds : List Kind) → length (leaf_spots c key l kinds) ≡ length kinds
leaf_count c key l [] = refl
leaf_count c key l (k ∷ kinds) = ap suc (leaf_count c key (suc l) kinds)

shape_kinds : (shape : CellForm) → length (kinds_of shape) ≤ nodes_of shape
shape_kinds numbers = omega arith
shape_kinds names = omega arith
shape_kinds truths = omega arith
shape_kinds (lex a b) = omega (arith, length-append (kinds_of a) (kinds_of b), shape_kinds a, shape_kinds b)
shape_kinds (pair a b) = omega (arith, length-append (kinds_of a) (kinds_of b), shape_kinds a, shape_kinds b)

kinds_few : (component : ComponentForm) → length (component_kinds component) ≤ component_size component
kinds_few (a_cell shape starts effects) = omega (arith, shape_kinds shape)
kinds_few (a_table key shape starts effects) = omega (arith, shape_kinds shape)
kinds_few (a_set key effects) = omega arith
kinds_few (a_tally effects) = omega arith
kinds_few (tallies key effects) = omega arith

components_few : (c : ℕ) (components : List ComponentForm) → length (component_spots c components) ≤ sum_by component_size components
components_few c [] = omega arith
components_few c (x ∷ components) =
    let here = leaf_spots c (key_sort x) 0 (component_kinds x) in
    omega (arith, length-append here (component_spots (suc c) components), leaf_count c (key_sort x) 0 (component_kinds x), kinds_few x, components_few (suc c) components, sum_by-cons component_size x components)

at_key_count : (at : Option Instance) (places : List Place) → length (at_key at places) ≡ length places
at_key_count at [] = refl
at_key_count at (p ∷ places) = ap suc (at_key_count at places)

at_each_few : (m : ℕ) (keys : List Instance) (places : List Place) → length places ≤ m → length (at_each keys places) ≤ length keys * m
at_each_few m [] places few = omega arith
at_each_few m (i ∷ keys) places few = omega (arith, length-append (at_key (Some i) places) (at_each keys places), at_key_count (Some i) places, at_each_few m keys places few, few)

at_sort_few : (s : Sort) (spots : List Spot) (keys : List (Sort × Instance)) → length spots ≤ 80 → length keys ≤ 5 → length (at_sort s spots keys) ≤ 400
at_sort_few s spots keys few short =
    let places : length (places_by (Some s) spots) ≤ 80 = omega (arith, places_few (Some s) spots, few) in
    let instances : length (instances_of s keys) ≤ 5 = omega (arith, instances_few s keys, short) in
    omega (arith, at_each_few 80 (instances_of s keys) (places_by (Some s) spots) places, instances)

looked_at_few : (spots : List Spot) (keys : List (Sort × Instance)) → length spots ≤ 80 → length keys ≤ 5 → length (all_looked_at spots keys) ≤ 1280
looked_at_few spots keys few short =
    let a = at_key None (places_by None spots) in
    let b = at_sort sort.Int spots keys in
    let c = at_sort sort.Nat spots keys in
    let d = at_sort sort.Name spots keys in
    omega (
      arith,
      length-append a b,
      length-append (a ++ b) c,
      length-append (a ++ b ++ c) d,
      at_key_count None (places_by None spots),
      places_few None spots,
      few,
      at_sort_few sort.Int spots keys few short,
      at_sort_few sort.Nat spots keys few short,
      at_sort_few sort.Name spots keys few short,
    )

-- what is at least 0
names_count : (place : Place) (ats : List (Option Instance)) → length (names_at place ats) ≡ length ats
names_count place [] = refl
names_count place (at ∷ ats) = ap suc (names_count place ats)

natural_kept_few : (spots : List Spot) (keys : List (Sort × Instance)) → length keys ≤ 5 → length (natural_kept spots keys) ≤ length spots * 5
natural_kept_few [] keys few = omega arith
natural_kept_few (s ∷ spots) keys few = by_test s.natural (natural_kept_few spots keys few)
  where
    here : List Name
    here = names_at s.place (looked_at s.key keys)

    by_test : (b : Bool) → length (natural_kept spots keys) ≤ length spots * 5 → length ((if b then here else []) ++ natural_kept spots keys) ≤ length (s ∷ spots) * 5
    by_test true h = omega (arith, h, length-append here (natural_kept spots keys), names_count s.place (looked_at s.key keys), looked_few s.key keys few)
    by_test false h = omega (arith, h)

natural_keys_few : (keys : List (Sort × Instance)) → length (natural_keys keys) ≤ length keys
natural_keys_few [] = omega arith
natural_keys_few (k ∷ keys) = by_test (is_natural k.0) (natural_keys_few keys)
  where
    by_test : (b : Bool) → length (natural_keys keys) ≤ length keys → length (if b then Key k.1 ∷ natural_keys keys else natural_keys keys) ≤ length (k ∷ keys)
    by_test true h = omega (arith, h)
    by_test false h = omega (arith, h)

-- claims
abbrev pub IsNarrow : Conjunct → Type 0
IsNarrow (Query query) = Unit {0}
IsNarrow (Equal f leaf) = Unit {0}
IsNarrow (Bounded leaves position) = length leaves ≤ 3
IsNarrow (AtLeast leaf position digit) = Unit {0}
IsNarrow (Matched first position second later digit) = Unit {0}
IsNarrow (Total component) = Unit {0}

elements_few : (cost : ℕ) (refs : List LeafRef) → 1 ≤ cost → elements_cost cost refs ≤ cost * (3 * length refs)
elements_few cost [] some = omega arith
elements_few cost (ref ∷ refs) some = omega (arith, elements_few cost refs some, some)

claim_within : (cost : ℕ) (c : Conjunct) → 1 ≤ cost → IsNarrow c → claim_cost cost c ≤ cost * 464
claim_within cost (Query query) some narrow = omega arith
claim_within cost (Equal f leaf) some narrow = omega arith
claim_within cost (Bounded leaves position) some narrow = omega (arith, elements_few cost leaves some, mul-le cost (3 * length leaves) cost 9 (omega arith) (omega (arith, narrow)))
claim_within cost (AtLeast leaf position digit) some narrow = omega (arith, some)
claim_within cost (Matched first position second later digit) some narrow = omega (arith, some)
claim_within cost (Total component) some narrow = omega arith

claims_few : (cost m : ℕ) (ats : List (Option Instance)) → cost ≤ m → claims_cost cost ats ≤ length ats * m
claims_few cost m [] le = omega arith
claims_few cost m (at ∷ ats) le = omega (arith, claims_few cost m ats le, le)

with_few : (places : List Place) (keys : List Instance) → length places ≤ 80 → with_cost places keys ≤ length keys * 162
with_few places [] few = omega arith
with_few places (j ∷ keys) few = omega (arith, with_few places keys few, few)

two_few : (places : List Place) (keys : List Instance) → length places ≤ 80 → length keys ≤ 5 → two_cost places keys ≤ length keys * 810
two_few places [] few short = omega arith
two_few places (i ∷ keys) few short = omega (arith, with_few places keys few, two_few places keys few (omega (arith, short)), short)

sort_few : (spots : List Spot) (keys : List (Sort × Instance)) (s : Sort) → length spots ≤ 80 → length keys ≤ 5 → sort_cost spots keys s ≤ 4050
sort_few spots keys s few short =
    let places : length (places_by (Some s) spots) ≤ 80 = omega (arith, places_few (Some s) spots, few) in
    let instances : length (instances_of s keys) ≤ 5 = omega (arith, instances_few s keys, short) in
    omega (arith, two_few (places_by (Some s) spots) (instances_of s keys) places instances, instances)

ranks_few : (ops : List OperationForm) → Every (λ (o : OperationForm). length o.ranks ≤ 3) ops → ranks_cost ops ≤ length ops * 6
ranks_few [] h = omega arith
ranks_few (o ∷ ops) h = omega (arith, h.0, ranks_few ops h.1)

module _ (ty : TypeForm) (design : DesignForm) (fields : length ty.fields ≤ 16) (ops : length ty.ops ≤ 12) (small : size_of design ≤ 64) (ranks : Every (λ (o : OperationForm). length o.ranks ≤ 3) ty.ops) where
  spots_few : length (spots_of ty design) ≤ 80
  spots_few = omega (arith, length-append (field_spots 0 ty.fields) (component_spots 0 design.components), field_count 0 ty.fields, components_few 0 design.components, fields, small)

  natural_few : (claim : Option Sort) (params : List Param) → length params ≤ 4 → length (all_natural ty design claim params) ≤ 405
  natural_few claim params few =
      let keys = keys_of claim params in
      let short = keys_few claim params few in
      let a = natural_kept (field_spots 0 ty.fields) keys in
      let b = natural_keys (argument_keys 0 params) in
      let c = natural_keys (claim_keys claim) in
      let d = natural_kept (component_spots 0 design.components) keys in
      omega (
        arith,
        length-append a b,
        length-append (a ++ b) c,
        length-append (a ++ b ++ c) d,
        natural_kept_few (field_spots 0 ty.fields) keys short,
        field_count 0 ty.fields,
        fields,
        natural_keys_few (argument_keys 0 params),
        argument_count 0 params,
        few,
        natural_keys_few (claim_keys claim),
        claim_few claim,
        natural_kept_few (component_spots 0 design.components) keys short,
        components_few 0 design.components,
        small,
      )

  state_few : (claim : Option Sort) (params : List Param) → length params ≤ 4 → state_cost ty design claim params ≤ 3039
  state_few claim params few =
      omega (arith, looked_at_few (spots_of ty design) (keys_of claim params) spots_few (keys_few claim params few), natural_few claim params few, ranks_few ty.ops ranks, ops)

  conjunct_few : (keys : List (Sort × Instance)) (c : Conjunct) → length keys ≤ 5 → IsNarrow c → conjunct_cost ty design keys c ≤ 2320
  conjunct_few keys c short narrow =
      let ats = looked_at (conjunct_key ty design.components c) keys in
      let one : claim_cost 1 c ≤ 464 = omega (arith, claim_within 1 c (omega arith) narrow) in
      omega (arith, claims_few (claim_cost 1 c) 464 ats one, looked_few (conjunct_key ty design.components c) keys short)

  relation_few : (keys : List (Sort × Instance)) (cs : List Conjunct) → length keys ≤ 5 → Every IsNarrow cs → relation_cost ty design keys cs ≤ 2320 * length cs
  relation_few keys [] short h = omega arith
  relation_few keys (c ∷ cs) short h = omega (arith, conjunct_few keys c short h.0, relation_few keys cs short h.1)

  module _ (relation : List Conjunct) (narrow : Every IsNarrow relation) where
    kept_few : (claim : Option Sort) (params : List Param) → length params ≤ 4 → kept_cost ty design relation claim params ≤ 12150 + 2320 * length relation
    kept_few claim params few =
        let keys = keys_of claim params in
        let short = keys_few claim params few in
        omega (
          arith,
          sort_few (spots_of ty design) keys sort.Int spots_few short,
          sort_few (spots_of ty design) keys sort.Nat spots_few short,
          sort_few (spots_of ty design) keys sort.Name spots_few short,
          relation_few keys relation short narrow,
        )

    abbrev pub IsSmallCondition : Condition → Type 0
    IsSmallCondition (start c) = IsNarrow c
    IsSmallCondition (step o op c) = (length op.params ≤ 4) × (length op.ranks ≤ 3) × IsNarrow c
    IsSmallCondition (answers q query) = length query.params ≤ 4

    after_few : (c : Conjunct) → IsNarrow c → claim_cost value_slots c ≤ 15_204_352
    unfolding value_slots
    after_few c h = omega (arith, claim_within value_slots c value_some h)

    pub condition_few : (condition : Condition) → IsSmallCondition condition → condition_cost ty design relation condition ≤ 2 ^ 24 + 2320 * length relation
    condition_few (start c) h = omega (arith, natural_keys_few (claim_keys (conjunct_key ty design.components c)), claim_few (conjunct_key ty design.components c), claim_within 1 c (omega arith) h)
    condition_few (step o op c) h =
        let claim = conjunct_key ty design.components c in
        omega (arith, state_few claim op.params h.0, h.1, kept_few claim op.params h.0, after_few c h.2)
    condition_few (answers q query) h = omega (arith, state_few None query.params h, kept_few None query.params h)

    starts_small : (cs : List Conjunct) → Every IsNarrow cs → Every IsSmallCondition (starts cs)
    starts_small [] h = tt
    starts_small (c ∷ cs) h = (h.0, starts_small cs h.1)

    steps_small : (o : ℕ) (op : OperationForm) → (length op.params ≤ 4) × (length op.ranks ≤ 3) → (cs : List Conjunct) → Every IsNarrow cs → Every IsSmallCondition (steps o op cs)
    steps_small o op short [] h = tt
    steps_small o op short (c ∷ cs) h = ((short.0, short.1, h.0), steps_small o op short cs h.1)

    each_steps_small : (o : ℕ) (ops : List OperationForm) → Every (λ (x : OperationForm). (length x.params ≤ 4) × (length x.ranks ≤ 3)) ops → Every IsSmallCondition (steps_of_each o ops relation)
    each_steps_small o [] h = tt
    each_steps_small o (op ∷ ops) h = every_append IsSmallCondition (steps o op relation) (steps_of_each (suc o) ops relation) (steps_small o op h.0 relation narrow) (each_steps_small (suc o) ops h.1)

    answers_small : (q : ℕ) (queries : List QueryForm) → Every (λ (x : QueryForm). length x.params ≤ 4) queries → Every IsSmallCondition (answers_of_each q queries)
    answers_small q [] h = tt
    answers_small q (query ∷ queries) h = (h.0, answers_small (suc q) queries h.1)

    pub conditions_small : Every (λ (x : OperationForm). (length x.params ≤ 4) × (length x.ranks ≤ 3)) ty.ops → Every (λ (x : QueryForm). length x.params ≤ 4) ty.queries → Every IsSmallCondition (conditions ty relation)
    conditions_small h k =
        every_append IsSmallCondition (starts relation ++ steps_of_each 0 ty.ops relation) (answers_of_each 0 ty.queries)
        (every_append IsSmallCondition (starts relation) (steps_of_each 0 ty.ops relation) (starts_small relation narrow) (each_steps_small 0 ty.ops h)) (answers_small 0 ty.queries k)

-- a conjunct that fits has as many leaves as a rank has elements, at most
match_within : (components : List ComponentForm) (refs : List LeafRef) (kinds : List (Option Kind)) → match_elements components refs kinds ≡ true → length refs ≤ length kinds
match_within components [] kinds e = omega arith
match_within components (ref ∷ refs) [] e = absurd (cc)
match_within components (ref ∷ refs) (k ∷ kinds) e =
    omega (arith, match_within components refs kinds (and_parts (same_kind (option_map as_ranked (ref_kind components ref)) k) (match_elements components refs kinds) e).1)

kinds_short : (ops : List OperationForm) → Every (λ (o : OperationForm). length o.ranks ≤ 3) ops → length (rank_kinds ops) ≤ 3
kinds_short [] h = omega arith
kinds_short (o ∷ ops) h = omega (arith, h.0, length-map o.ranks (element_kind o.params))

leaves_narrow : (ty : TypeForm) (components : List ComponentForm) (leaves : List LeafRef) (position : ℕ) → Every (λ (o : OperationForm). length o.ranks ≤ 3) ty.ops → FitsConjunct ty components (Bounded leaves position) → length leaves ≤ 3
leaves_narrow ty components [] position ranks e = omega arith
leaves_narrow ty components (ref ∷ refs) position ranks e =
    let matched = (and_parts (has_rising_leaves (slice_get components ref.component) && are_of ref.component refs && are_apart (ref ∷ refs)) (match_elements components (ref ∷ refs) (drop position (rank_kinds ty.ops))) e).1 in
    omega (arith, match_within components (ref ∷ refs) (drop position (rank_kinds ty.ops)) matched, length-drop position (rank_kinds ty.ops), kinds_short ty.ops ranks)

pub is_narrow : (ty : TypeForm) (components : List ComponentForm) → Every (λ (o : OperationForm). length o.ranks ≤ 3) ty.ops → (c : Conjunct) → FitsConjunct ty components c → IsNarrow c
is_narrow ty components ranks (Query query) e = tt
is_narrow ty components ranks (Equal f leaf) e = tt
is_narrow ty components ranks (Bounded leaves position) e = leaves_narrow ty components leaves position ranks e
is_narrow ty components ranks (AtLeast leaf position digit) e = tt
is_narrow ty components ranks (Matched first position second later digit) e = tt
is_narrow ty components ranks (Total component) e = tt
