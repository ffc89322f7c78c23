-- What is known of every legal situation: the start, the sorts, the last operation, and equal keys.
use Rattle.std.proofs.Common.{◌≡◌, ◌≢◌, ℕ, zero, suc, ◌+◌, ◌≤◌, ℤ, pos, ◌≤ℤ◌, int_le, Bool, true, false, not, ◌||◌, if◌then◌else◌, List, [], ◌∷◌, ◌++◌, Option, Some, None, refl, sym, ap, subst, ◌∙◌, map, arith, All}
use Rattle.std.specs.Prelude.{slice_get, MatchOption}
use Rattle.std.proofs.lemmas.Int.{ints}
use Rattle.std.proofs.lemmas.List.Elements.{All-nil, All-cons, All-head, All-tail, All-append}
use Rattle.kat_num.specs.declared.values.Sort.{Sort}
use Rattle.kat_num.specs.declared.values.Sort.TheVariants as sort
use Rattle.kat_num.specs.declared.values.Value.{Value}
use Rattle.kat_num.specs.declared.values.Value.TheVariants as value
use Rattle.kat_expr.specs.Slots.{argument, read_table, slot_at}
use Rattle.kat_form.specs.Facts.{listed}
use Rattle.kat_form.specs.Facts.Fact.{all_of, any_of}
use Rattle.kat_form.specs.Meanings.{all_true, any_true}
use Rattle.kat_type.specs.Alike.{HasAlikeRanks, element_kind as type_kind, rank_kinds as type_rank_kinds, sort_kind as type_sort_kind, argument_kind}
use Rattle.kat_type.specs.Fits.{IsWellSorted as IsGoodType, RankFits}
use Rattle.kat_type.specs.Ranks.{kind_of}
use Rattle.kat_type.specs.Types.{OperationForm, TypeForm}
use Rattle.kat_type.specs.declared.types.Param.{Param}
use Rattle.kat_type.specs.declared.types.Rank.{Rank}
use Rattle.kat_type.specs.declared.types.Rank.TheVariants as rank
use Rattle.kat_design.specs.Designs.{DesignForm}
use Rattle.kat_design.specs.Kinds.{sort_kind, value_kind}
use Rattle.kat_design.specs.Sorted.{AreMatched, IsWellSorted}
use Rattle.kat_design.specs.declared.kinds.Kind.{Kind}
use Rattle.kat_design.specs.declared.kinds.Kind.TheVariants as kind
use Rattle.kat_relation.specs.Fits.{element_kind, rank_kinds, parameter_kind}
use Rattle.kat_claims.specs.Groups.{at_least, digit_read, elements_match, equal_read, keys_stated, last_read, naturals_stated, ranks_match, same_each, start_read, stated, each_two}
use Rattle.kat_claims.specs.declared.spots.Spot.{Spot}
use Rattle.kat_claims.specs.Places.{all_looked_at, all_natural, argument_keys, claim_keys, component_spots, field_spots, instances_of, is_natural, keys_of, looked_at, names_at, natural_kept, natural_keys, places_by, spots_of}
use Rattle.kat_symbols.specs.Readers.{Reader, read_flag, read_name}
use Rattle.kat_vc.specs.Conditions.{state_stated}
use Rattle.kat_claims.specs.States.{old_side, start_side}
use Rattle.kat_symbols.specs.declared.names.Instance.{Instance}
use Rattle.kat_symbols.specs.declared.names.Name.{Name}
use Rattle.kat_symbols.specs.declared.names.Name.TheVariants.{Begun, Element, Key, Kept, LastReplica, LastTime}
use Rattle.kat_symbols.specs.declared.names.Place.{Place}
use Rattle.kat_symbols.specs.declared.names.Place.TheVariants.{Field, Leaf}
use Rattle.kat_invariant.specs.Legal.{HasElement, IsAtStart, IsLegal, IsLegalLast}
use Rattle.kat_invariant.specs.Situations.{Last, Situation, leaf_in, start_of, starts_of}
use Rattle.kat_invariant.proofs.Claims.{RanksFit, some_kind}
use Rattle.kat_invariant.proofs.Groups.{HaveTruths, Passes, all_has, any_has, at_least_reads, compared_each, each_two_passes, equal_each, equal_reads, front_reads, naturals_pass, passes_then, same_each_reads, same_itself, true_stated}
use Rattle.kat_invariant.proofs.Having.{ReadsTruth, not_has, numeral_has, or_has, same_has, truth_as}
use Rattle.kat_invariant.proofs.Logic.{Meant, measure, HasTruth, Reads, stays, reads_as, reads_flag, reads_name, reads_two}
use Rattle.kat_invariant.proofs.Meaning.{names_now, old_is_side, replica_of, start_reads, time_of}
use Rattle.kat_invariant.proofs.Ranking.{last_kinds, one_rank, operation_fits}
use Rattle.kat_invariant.proofs.Saying.{int_same}
use Rattle.kat_invariant.proofs.Situated.{IsAt, IsKeyAt, element_of, is_begun, key_at, place_value}
use Rattle.kat_invariant.proofs.Spots.{IsKeyOf, IsSpot, IsThere, all_are_spots, all_fields_are_spots, all_leaves_are_spots, all_there, instances_fit, looked_fit, natural_least, places_stand}

-- kinds of ranks, as the type and as designs say them
abbrev kind_from : ℕ → Kind
kind_from zero = kind.Truth
kind_from (suc zero) = kind.Number
kind_from (suc (suc n)) = kind.Name

value_from : (v : Value) → value_kind v ≡ kind_from (kind_of v)
value_from (value.Bool b) = refl
value_from (value.Num z) = refl
value_from (value.Name n) = refl

sort_from : (s : Sort) → sort_kind s ≡ kind_from (type_sort_kind s)
sort_from sort.Bool = refl
sort_from sort.Int = refl
sort_from sort.Nat = refl
sort_from sort.Name = refl

abbrev from_number : ℕ → Option Kind
from_number n = Some (kind_from n)

param_from : (o : Option Param) → MatchOption o ⊥ (λ (p : Param). p.sort ≢ sort.Bool) → parameter_kind o ≡ from_number (argument_kind o)
param_from None h = absurd h
param_from (Some p) h = ap Some (sort_from p.sort)

element_from : (params : List Param) (e : Rank) → RankFits params e → element_kind params e ≡ from_number (type_kind params e)
element_from params (rank.Digit n) h = refl
element_from params rank.Time h = refl
element_from params rank.Replica h = refl
element_from params (rank.Arg place) h = param_from (slice_get params place) h

elements_from : (params : List Param) (es : List Rank) → All (RankFits params) es → map (element_kind params) es ≡ map from_number (map (type_kind params) es)
elements_from params [] h = refl
elements_from params (e ∷ es) h =
    ap (λ k. k ∷ map (element_kind params) es) (element_from params e (All-head (RankFits params) e es h))
    ∙ ap (λ ks. from_number (type_kind params e) ∷ ks) (elements_from params es (All-tail (RankFits params) e es h))

values_from : (vs : List Value) → map some_kind vs ≡ map from_number (map kind_of vs)
values_from [] = refl
values_from (v ∷ vs) = ap (λ k. Some k ∷ map some_kind vs) (value_from v) ∙ ap (λ ks. from_number (kind_of v) ∷ ks) (values_from vs)

first_kinds : (ty : TypeForm) (ops : List OperationForm) → ty.ops ≡ ops → (op : ℕ) (p : OperationForm) → IsGoodType ty → HasAlikeRanks ty → slice_get ty.ops op ≡ Some p → map from_number (type_rank_kinds p) ≡ rank_kinds ops
first_kinds ty [] e op p good alike there = absurd (let nowhere : slice_get [] op ≡ Some p = subst (λ os. slice_get os op ≡ Some p) e there in cc)
first_kinds ty (o ∷ os) e op p good alike there =
    let first : slice_get ty.ops 0 ≡ Some o = subst (λ os'. slice_get os' 0 ≡ Some o) (sym e) refl in
    ap (map from_number) (one_rank ty op 0 p o alike there first) ∙ sym (elements_from o.params o.ranks (operation_fits ty 0 o good first).ranks)

pub ranks_fit : (ty : TypeForm) (last : Last) (op : ℕ) (p : OperationForm) → IsGoodType ty → HasAlikeRanks ty → slice_get ty.ops op ≡ Some p → map kind_of last.rank ≡ map (type_kind p.params) p.ranks → RanksFit ty (Some last)
ranks_fit ty last op p good alike there kinds = values_from last.rank ∙ ap (map from_number) kinds ∙ first_kinds ty ty.ops refl op p good alike there

pub legal_ranks : (ty : TypeForm) (last : Option Last) → IsGoodType ty → HasAlikeRanks ty → MatchOption last (Unit {0}) (IsLegalLast ty) → RanksFit ty last
legal_ranks ty None good alike legal = tt
legal_ranks ty (Some last) good alike legal = ranks_fit ty last legal.op legal.operation good alike legal.there (last_kinds last legal.operation.params last.rank legal.operation.ranks legal.shape)

int_natural : (n m : ℕ) → n ≤ m → pos n ≤ℤ pos m
int_natural n m h = omega (arith, ints, h)

or_last : (b c : Bool) → (b ≡ true → c ≡ true) → (not b || c) ≡ true
or_last true c h = h refl
or_last false c h = refl

or_first : (b c : Bool) → (b ≡ false → c ≡ true) → (b || c) ≡ true
or_first true c h = refl
or_first false c h = h refl

-- the rank of the last operation
abbrev element_bools : (ℕ → Value) → ℕ → ℕ → ℕ → List Rank → List Bool
element_bools elements time replica j [] = []
element_bools elements time replica j (rank.Digit n ∷ es) = int_same (measure (elements j)) (pos n) ∷ element_bools elements time replica (suc j) es
element_bools elements time replica j (rank.Time ∷ es) = int_same (measure (elements j)) (pos time) ∷ element_bools elements time replica (suc j) es
element_bools elements time replica j (rank.Replica ∷ es) = int_same (measure (elements j)) (pos replica) ∷ element_bools elements time replica (suc j) es
element_bools elements time replica j (rank.Arg place ∷ es) = element_bools elements time replica (suc j) es

abbrev operation_bools : (ℕ → Value) → ℕ → ℕ → List OperationForm → List Bool
operation_bools elements time replica [] = []
operation_bools elements time replica (o ∷ os) = all_true (element_bools elements time replica 0 o.ranks) ∷ operation_bools elements time replica os

same_as : (v : Value) (z : ℤ) → v ≡ value.Num z → int_same (measure v) z ≡ true
same_as v z e = ap (λ x. int_same (measure x) z) e ∙ same_itself z

rank_matches : (last : Last) (params : List Param) (elements : ℕ → Value) (j : ℕ) (vs : List Value) (es : List Rank) → ((i : ℕ) → elements (j + i) ≡ argument vs i) → AreMatched (HasElement last params) vs es
    → all_true (element_bools elements last.time last.replica j es) ≡ true
rank_matches last params elements j [] [] at h = refl
rank_matches last params elements j [] (e ∷ es) at h = absurd h
rank_matches last params elements j (v ∷ vs) [] at h = absurd h
rank_matches last params elements j (v ∷ vs) (e ∷ es) at h = by_element e h.0 (rank_matches last params elements (suc j) vs es (λ i. subst (λ n. elements n ≡ argument vs i) (omega arith) (at (suc i))) h.1)
  where
    here : elements j ≡ v
    here = subst (λ n. elements n ≡ v) (omega arith) (at 0)

    by_element : (x : Rank) → HasElement last params v x → all_true (element_bools elements last.time last.replica (suc j) es) ≡ true → all_true (element_bools elements last.time last.replica j (x ∷ es)) ≡ true
    by_element (rank.Digit n) is rest = let one = same_as (elements j) (pos n) (here ∙ is) in rw (one, rest) refl
    by_element rank.Time is rest = let one = same_as (elements j) (pos last.time) (here ∙ is) in rw (one, rest) refl
    by_element rank.Replica is rest = let one = same_as (elements j) (pos last.replica) (here ∙ is) in rw (one, rest) refl
    by_element (rank.Arg place) is rest = rest

one_matches : (elements : ℕ → Value) (time replica : ℕ) (os : List OperationForm) (op : ℕ) (o : OperationForm) → slice_get os op ≡ Some o → all_true (element_bools elements time replica 0 o.ranks) ≡ true → any_true (operation_bools elements time replica os) ≡ true
one_matches elements time replica [] op o e h = absurd (cc)
one_matches elements time replica (x ∷ os) zero o e h = let is : x ≡ o = cc in let here : all_true (element_bools elements time replica 0 x.ranks) ≡ true = ap (λ y. all_true (element_bools elements time replica 0 y.ranks)) is ∙ h in rw here refl
one_matches elements time replica (x ∷ os) (suc op) o e h = let rest = one_matches elements time replica os op o e h in or_true (all_true (element_bools elements time replica 0 x.ranks)) (any_true (operation_bools elements time replica os)) rest
  where
    or_true : (a b : Bool) → b ≡ true → (a || b) ≡ true
    or_true true b e = refl
    or_true false b e = e

module _ (ty : TypeForm) (d : DesignForm) (good : IsGoodType ty) (alike : HasAlikeRanks ty) (sorted : IsWellSorted d) (s : Situation) (legal : IsLegal ty d s) (keys : Instance → Value) (time replica : ℕ) (later : Name → Value) where
  abbrev m : Meant
  m = record { now = names_now s keys time replica; later = later }

  -- the start
  start_passes : (seen : List (Place × Option Instance)) → All (IsThere ty d keys) seen → ReadsTruth m (start_read (old_side ty d) (start_side ty d) seen) true
  start_passes seen there r =
      let begun = (old_side ty d).begun r in let parts = same_each (old_side ty d) (start_side ty d) seen begun.1 in
      reads_two m r begun.1 parts.1 (HasTruth begun.0 (is_begun s.last)) (HaveTruths parts.0 (compared_each u v seen)) _
      ((old_is_side ty d s legal.fields legal.parts keys time replica later).begun r)
      (same_each_reads m (old_side ty d) (start_side ty d) u v seen
      (λ n q lt. (old_is_side ty d s legal.fields legal.parts keys time replica later).value _ _ (there n q lt))
      (λ n q lt. start_reads ty d sorted keys m _ _ (there n q lt)) begun.1)
      (λ w p q. truth_as w _ _ _ (or_first (is_begun s.last) (all_true (compared_each u v seen)) (λ e. equal_each u v seen (λ n x lt. at_start (fresh s.last refl e) _ _ (there n x lt)))) (or_has w _ _ _ _ p (all_has w parts.0 (compared_each u v seen) q)))
    where
      u : Place × Option Instance → Value
      u p = place_value s keys p.0 p.1

      v : Place × Option Instance → Value
      v p = place_value (start_of ty d) keys p.0 p.1

      fresh : (o : Option Last) → s.last ≡ o → is_begun o ≡ false → IsAtStart ty d s
      fresh None e f = legal.fresh e
      fresh (Some last) e f = absurd (cc)

      at_start : IsAtStart ty d s → (place : Place) (at : Option Instance) → IsAt ty d keys place at → place_value s keys place at ≡ place_value (start_of ty d) keys place at
      at_start begin (Field f) None h = begin.fields f
      at_start begin (Field f) (Some i) h = begin.tables f (keys i)
      at_start begin (Leaf c l) at h = ap (λ x. leaf_in x l) (begin.parts c h.component h.there (key_at keys at)) ∙ sym (ap (λ o. leaf_in (starts_of o) l) h.there)

  -- the sorts
  abbrev IsNatural : Name → Type 0
  IsNatural n = pos 0 ≤ℤ measure (m.now n)

  names_natural : (place : Place) (ats : List (Option Instance)) (key : Option Sort) → All (IsKeyAt keys key) ats → ((i : Option Instance) → IsKeyAt keys key i → pos 0 ≤ℤ measure (place_value s keys place i)) → All IsNatural (names_at place ats)
  names_natural place [] key h k = All-nil IsNatural
  names_natural place (at ∷ ats) key h k = All-cons IsNatural (Kept place at) (names_at place ats) (k at (All-head (IsKeyAt keys key) at ats h)) (names_natural place ats key (All-tail (IsKeyAt keys key) at ats h) k)

  kept_natural : (spots : List Spot) (ks : List (Sort × Instance)) → All (IsSpot ty d keys) spots → All (IsKeyOf ty d keys) ks → All IsNatural (natural_kept spots ks)
  kept_natural [] ks h k = All-nil IsNatural
  kept_natural (x ∷ xs) ks h k =
      All-append IsNatural (if x.natural then names_at x.place (looked_at x.key ks) else []) (natural_kept xs ks) (by_test x.natural refl) (kept_natural xs ks (All-tail (IsSpot ty d keys) x xs h) k)
    where
      by_test : (b : Bool) → x.natural ≡ b → All IsNatural (if b then names_at x.place (looked_at x.key ks) else [])
      by_test true e = names_natural x.place (looked_at x.key ks) x.key (looked_fit ty d keys x.key ks k) ((All-head (IsSpot ty d keys) x xs h).natural s legal.fields legal.parts e)
      by_test false e = All-nil IsNatural

  pub keys_natural : (ks : List (Sort × Instance)) → All (IsKeyOf ty d keys) ks → All IsNatural (natural_keys ks)
  keys_natural [] k = All-nil IsNatural
  keys_natural (x ∷ xs) k = by_test (is_natural x.0) refl (keys_natural xs (All-tail (IsKeyOf ty d keys) x xs k))
    where
      by_test : (b : Bool) → is_natural x.0 ≡ b → All IsNatural (natural_keys xs) → All IsNatural (if b then Key x.1 ∷ natural_keys xs else natural_keys xs)
      by_test true e rest = All-cons IsNatural (Key x.1) (natural_keys xs) (natural_least x.0 (keys x.1) e (All-head (IsKeyOf ty d keys) x xs k)) rest
      by_test false e rest = rest

  all_are_natural : (claim : Option Sort) (params : List Param) → All (IsKeyOf ty d keys) (claim_keys claim) → All (IsKeyOf ty d keys) (argument_keys 0 params) → All IsNatural (all_natural ty d claim params)
  all_are_natural claim params c a =
      let both = All-append (IsKeyOf ty d keys) (claim_keys claim) (argument_keys 0 params) c a in
      All-append IsNatural (natural_kept (field_spots 0 ty.fields) (keys_of claim params) ++ natural_keys (argument_keys 0 params) ++ natural_keys (claim_keys claim)) (natural_kept (component_spots 0 d.components) (keys_of claim params))
      (All-append IsNatural (natural_kept (field_spots 0 ty.fields) (keys_of claim params) ++ natural_keys (argument_keys 0 params)) (natural_keys (claim_keys claim))
      (All-append IsNatural (natural_kept (field_spots 0 ty.fields) (keys_of claim params)) (natural_keys (argument_keys 0 params))
      (kept_natural (field_spots 0 ty.fields) (keys_of claim params) (all_fields_are_spots ty d keys) both)
      (keys_natural (argument_keys 0 params) a))
      (keys_natural (claim_keys claim) c))
      (kept_natural (component_spots 0 d.components) (keys_of claim params) (all_leaves_are_spots ty d keys) both)

  -- the last operation
  digit_reads : (j n : ℕ) → ReadsTruth m (digit_read j n) (int_same (measure (element_of s.last j)) (pos n))
  digit_reads j n r = reads_as m r (read_name (Element j) r).1 _ _ (reads_name m (Element j) r) (λ w q. same_has w _ _ _ _ q (numeral_has w (pos n)))

  elements_reads : (j : ℕ) (es : List Rank) (r : Reader) → Reads m r (elements_match j es r).1 (HaveTruths (elements_match j es r).0 (element_bools (element_of s.last) (time_of s.last) (replica_of s.last) j es))
  elements_reads j [] r = stays m r _ (λ w f. tt)
  elements_reads j (rank.Digit n ∷ es) r = front_reads m (digit_read j n) (elements_match (suc j) es) _ _ (digit_reads j n) (elements_reads (suc j) es) r
  elements_reads j (rank.Time ∷ es) r = front_reads m (equal_read (Element j) LastTime) (elements_match (suc j) es) _ _ (equal_reads m (Element j) LastTime) (elements_reads (suc j) es) r
  elements_reads j (rank.Replica ∷ es) r = front_reads m (equal_read (Element j) LastReplica) (elements_match (suc j) es) _ _ (equal_reads m (Element j) LastReplica) (elements_reads (suc j) es) r
  elements_reads j (rank.Arg place ∷ es) r = elements_reads (suc j) es r

  ranks_reads : (os : List OperationForm) (r : Reader) → Reads m r (ranks_match os r).1 (HaveTruths (ranks_match os r).0 (operation_bools (element_of s.last) (time_of s.last) (replica_of s.last) os))
  ranks_reads [] r = stays m r _ (λ w f. tt)
  ranks_reads (o ∷ os) r =
      front_reads m (λ q. (all_of (listed (elements_match 0 o.ranks q).0), (elements_match 0 o.ranks q).1)) (ranks_match os) _ _
      (λ q. reads_as m q (elements_match 0 o.ranks q).1 _ _ (elements_reads 0 o.ranks q) (λ w h. all_has w (elements_match 0 o.ranks q).0 (element_bools (element_of s.last) (time_of s.last) (replica_of s.last) 0 o.ranks) h))
      (ranks_reads os) r

  last_bool : (o : Option Last) → MatchOption o (Unit {0}) (IsLegalLast ty) → is_begun o ≡ true
      → all_true (int_le (pos 1) (pos (time_of o)) ∷ int_le (pos 1) (pos (replica_of o)) ∷ any_true (operation_bools (element_of o) (time_of o) (replica_of o) ty.ops) ∷ []) ≡ true
  last_bool None l e = absurd (cc)
  last_bool (Some last) l e =
      let one : int_le (pos 1) (pos last.time) ≡ true = least (pos last.time) (int_natural 1 last.time l.time) in
      let two : int_le (pos 1) (pos last.replica) ≡ true = least (pos last.replica) (int_natural 1 last.replica l.replica) in
      let three : any_true (operation_bools (argument last.rank) last.time last.replica ty.ops) ≡ true =
      one_matches (argument last.rank) last.time last.replica ty.ops l.op l.operation l.there (rank_matches last l.operation.params (argument last.rank) 0 last.rank l.operation.ranks (λ i. same_place last.rank i) l.shape) in
      rw (one, two, three) refl
    where
      least : (z : ℤ) → pos 1 ≤ℤ z → int_le (pos 1) z ≡ true
      least z h = grind (arith, ints)

      same_place : (vs : List Value) (i : ℕ) → argument vs (0 + i) ≡ argument vs i
      same_place vs i = let same : 0 + i ≡ i = omega arith in ap (argument vs) same

  last_passes : ReadsTruth m (last_read ty.ops) true
  last_passes r =
      let begun = read_flag Begun r in
      let t = at_least 1 LastTime begun.1 in let q = at_least 1 LastReplica t.1 in
      let shapes = ranks_match ty.ops q.1 in
      let bt = int_le (pos 1) (pos (time_of s.last)) in
      let bq = int_le (pos 1) (pos (replica_of s.last)) in
      let bs = operation_bools (element_of s.last) (time_of s.last) (replica_of s.last) ty.ops in
      reads_two m r t.1 shapes.1 (λ w. HasTruth begun.0 (is_begun s.last) w × HasTruth t.0 bt w) (λ w. HasTruth q.0 bq w × HaveTruths shapes.0 bs w) _
      (reads_two m r begun.1 t.1 (HasTruth begun.0 (is_begun s.last)) (HasTruth t.0 bt) _ (reads_flag m Begun r) (at_least_reads m 1 LastTime begun.1) (λ w a b. (a, b)))
      (reads_two m t.1 q.1 shapes.1 (HasTruth q.0 bq) (HaveTruths shapes.0 bs) _ (at_least_reads m 1 LastReplica t.1) (ranks_reads ty.ops q.1) (λ w a b. (a, b)))
      (λ w a b. truth_as w _ _ _ (or_last (is_begun s.last) (all_true (bt ∷ bq ∷ any_true bs ∷ [])) (last_bool s.last legal.last))
      (or_has w _ _ _ _ (not_has w _ _ a.0) (all_has w (t.0 ∷ q.0 ∷ any_of (listed shapes.0) ∷ []) (bt ∷ bq ∷ any_true bs ∷ []) (a.1, (b.0, (any_has w shapes.0 bs b.1, tt))))))

  -- all of it
  pub state_passes : (claim : Option Sort) (params : List Param) → All (IsKeyOf ty d keys) (claim_keys claim) → All (IsKeyOf ty d keys) (argument_keys 0 params) → Passes m (state_stated ty d claim params)
  state_passes claim params c a =
      let both = All-append (IsKeyOf ty d keys) (claim_keys claim) (argument_keys 0 params) c a in
      let seen = all_looked_at (spots_of ty d) (keys_of claim params) in
      passes_then m (λ r. naturals_stated (all_natural ty d claim params) (stated (start_read (old_side ty d) (start_side ty d) seen r))) (λ r. stated (last_read ty.ops r))
      (passes_then m (λ r. stated (start_read (old_side ty d) (start_side ty d) seen r)) (naturals_stated (all_natural ty d claim params))
      (true_stated m (start_read (old_side ty d) (start_side ty d) seen) (start_passes seen (all_there ty d keys (spots_of ty d) (keys_of claim params) (all_are_spots ty d keys) both)))
      (naturals_pass m (all_natural ty d claim params) (all_are_natural claim params c a)))
      (true_stated m (last_read ty.ops) last_passes)

  -- equal keys
  keys_at_sort : (q : Sort) → q ≢ sort.Bool → (ks : List (Sort × Instance)) → All (IsKeyOf ty d keys) ks → Passes m (each_two (old_side ty d) (places_by (Some q) (spots_of ty d)) (instances_of q ks))
  keys_at_sort q ordered ks k =
      each_two_passes m (old_side ty d) (place_value s keys) (places_by (Some q) (spots_of ty d)) q ordered keys (λ i. refl) same_at
      (λ i h n p lt. (old_is_side ty d s legal.fields legal.parts keys time replica later).value _ (Some i) (places_stand ty d keys (Some q) (spots_of ty d) (all_are_spots ty d keys) n p lt (Some i) h))
      (instances_of q ks) (instances_fit ty d keys q ks k)
    where
      same_at : (i j : Instance) (p : Place) → keys i ≡ keys j → place_value s keys p (Some i) ≡ place_value s keys p (Some j)
      same_at i j (Field f) e = ap (λ v. read_table v (slot_at s.state f)) e
      same_at i j (Leaf c l) e = ap (λ v. leaf_in (s.held c v) l) e

  pub keys_pass : (ks : List (Sort × Instance)) → All (IsKeyOf ty d keys) ks → Passes m (keys_stated (old_side ty d) (spots_of ty d) ks)
  keys_pass ks k =
      let places = λ (q : Sort). places_by (Some q) (spots_of ty d) in
      passes_then m (λ r. each_two (old_side ty d) (places sort.Nat) (instances_of sort.Nat ks) (each_two (old_side ty d) (places sort.Int) (instances_of sort.Int ks) r)) (each_two (old_side ty d) (places sort.Name) (instances_of sort.Name ks))
      (passes_then m (each_two (old_side ty d) (places sort.Int) (instances_of sort.Int ks)) (each_two (old_side ty d) (places sort.Nat) (instances_of sort.Nat ks)) (keys_at_sort sort.Int (λ e. int_bool e) ks k) (keys_at_sort sort.Nat (λ e. nat_bool e) ks k))
      (keys_at_sort sort.Name (λ e. name_bool e) ks k)
    where
      int_bool : sort.Int ≡ sort.Bool → ⊥
      int_bool e = let is : type_sort_kind sort.Int ≡ type_sort_kind sort.Bool = ap type_sort_kind e in absurd (omega (arith, is))

      nat_bool : sort.Nat ≡ sort.Bool → ⊥
      nat_bool e = let is : type_sort_kind sort.Nat ≡ type_sort_kind sort.Bool = ap type_sort_kind e in absurd (omega (arith, is))

      name_bool : sort.Name ≡ sort.Bool → ⊥
      name_bool e = let is : type_sort_kind sort.Name ≡ type_sort_kind sort.Bool = ap type_sort_kind e in absurd (omega (arith, is))
