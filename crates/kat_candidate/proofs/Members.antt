-- What is listed are the candidates.
use Rattle.std.proofs.Common.{◌≡◌, ℕ, zero, suc, ◌+◌, ◌-◌, ◌<◌, ◌≤◌, ◌⊎◌, inl, inr, ⊎_elim, Bool, true, false, ◌&&◌, if◌then◌else◌, List, [], ◌∷◌, ◌++◌, length, max, drop, map, Option, None, Some, option_map, refl, sym, ap, subst, ◌∙◌, arith}
use Rattle.std.specs.Prelude.{nat_eq, nat_lt, nat_le, slice_get, ◌↔◌}
use Rattle.std.specs.Option.{option_flatten}
use Rattle.std.proofs.lemmas.Bool.{false≢true, and_from, eqb-true, eq-eqb, leb-true}
use Rattle.std.proofs.lemmas.Option.{slice_get_within}
use Rattle.std.proofs.lemmas.List.{append_assoc, append-nil, length-map}
use Rattle.kat_design.specs.Designs.{ComponentForm, DesignForm}
use Rattle.kat_design.specs.Kinds.{component_kinds, leaf_kind}
use Rattle.kat_design.specs.declared.kinds.Kind.{Kind}
use Rattle.kat_design.specs.declared.kinds.Kind.TheVariants as kind
use Rattle.kat_relation.specs.Fits.{are_apart, are_of, as_ranked, bounded_fits, conjunct_fits, digit_fits, element_kind, field_kind, has_key_at_most, has_rising_leaves, has_sums, is_ordered, match_elements, position_kind, query_fits, rank_kinds, ref_kind, same_keys, same_kind}
use Rattle.kat_relation.specs.Keys.{component_key, field_key}
use Rattle.kat_relation.specs.declared.relations.Conjunct.{Conjunct}
use Rattle.kat_relation.specs.declared.relations.Conjunct.TheVariants.{Query, Equal, Bounded, AtLeast, Matched, Total}
use Rattle.kat_relation.specs.declared.relations.LeafRef.{LeafRef}
use Rattle.kat_type.specs.Lists.{Has}
use Rattle.kat_type.specs.Types.{OperationForm, QueryForm, TypeForm}
use Rattle.kat_type.specs.declared.types.Field.{Field}
use Rattle.kat_type.specs.declared.types.Rank.{Rank}
use Rattle.kat_type.specs.declared.types.Rank.TheVariants.{Digit, Time, Replica, Arg}
use Rattle.kat_type.proofs.Lists.{has_front, has_behind, has_either}
use Rattle.kat_candidate.specs.Candidates.{AreCandidates, HasConstant, HasDigit, IsCandidate, IsConstant}
use Rattle.kat_candidate.specs.Listed.{all_constants, all_leaves, at_leasts, bounds, candidates_of, equals, matches, places_of, positions_of, queries, totals}
use Rattle.kat_candidate.specs.Forms.{SidesForm, at_least_of, at_leasts_of, behind_leaf, bound_of, bounds_of, chosen, each_of, equal_of, equals_of, first_bound_of, longer_of, match_of, matches_at, matches_of, matches_with, query_of, total_of}
use Rattle.kat_candidate.specs.Parts.{constants_at, constants_of, digits, has_digit, is_digit, leaves_from, leaves_of, numbers_from, rank_length}
use Rattle.kat_candidate.specs.declared.parts.Constant.{Constant}
use Rattle.kat_candidate.proofs.Orders.{and_both, ascend_pairs}
use Rattle.kat_candidate.proofs.Enumerated.{chosen_only, constants_own, each_has, has_chosen, has_each, listed_ascend, numbers_least}

-- from a listed conjunct to a candidate
picked : (sides : SidesForm) (c d : Conjunct) → HasConstant sides.ty c → Has (chosen sides c) d → IsCandidate sides.ty sides.design d
picked sides c d constant h = let only = chosen_only sides c d h in subst (IsCandidate sides.ty sides.design) only.0 (only.1, constant)

-- constants are digits above 0 of the type
digit_there : (r : Option Rank) (digit : ℕ) → is_digit r digit ≡ true → r ≡ Some (Digit digit)
digit_there None digit h = absurd (false≢true h)
digit_there (Some (Digit n)) digit h = ap (λ m. Some (Digit m)) (eqb-true n digit h)
digit_there (Some Time) digit h = absurd (false≢true h)
digit_there (Some Replica) digit h = absurd (false≢true h)
digit_there (Some (Arg place)) digit h = absurd (false≢true h)

there_digit : (r : Option Rank) (digit : ℕ) → r ≡ Some (Digit digit) → is_digit r digit ≡ true
there_digit r digit e = ap (λ x. is_digit x digit) e ∙ eq-eqb digit digit refl

abbrev SomeHas : List OperationForm → ℕ → ℕ → Type 0
SomeHas ops position digit = (op : OperationForm) × Has ops op × (slice_get op.ranks position ≡ Some (Digit digit))

found_first : (b : Bool) (o : OperationForm) (os : List OperationForm) (position digit : ℕ) → is_digit (slice_get o.ranks position) digit ≡ b → (if b then true else has_digit os position digit) ≡ true
    → (has_digit os position digit ≡ true → SomeHas os position digit) → SomeHas (o ∷ os) position digit
found_first true o os position digit e h rest = (o, inl refl, digit_there (slice_get o.ranks position) digit e)
found_first false o os position digit e h rest = let r = rest h in (r.0, inr r.1, r.2)

some_has : (ops : List OperationForm) (position digit : ℕ) → has_digit ops position digit ≡ true → SomeHas ops position digit
some_has [] position digit h = absurd (false≢true h)
some_has (o ∷ os) position digit h = found_first (is_digit (slice_get o.ranks position) digit) o os position digit refl h (some_has os position digit)

either_true : (b : Bool) (rest : Bool) → rest ≡ true → (if b then true else rest) ≡ true
either_true true rest h = refl
either_true false rest h = h

has_some : (ops : List OperationForm) (position digit : ℕ) (op : OperationForm) → Has ops op → slice_get op.ranks position ≡ Some (Digit digit) → has_digit ops position digit ≡ true
has_some [] position digit op h e = absurd h
has_some (o ∷ os) position digit op (inl same) e =
    let here : is_digit (slice_get o.ranks position) digit ≡ true = ap (λ (x : OperationForm). is_digit (slice_get x.ranks position) digit) same ∙ there_digit (slice_get op.ranks position) digit e in
    ap (λ b. if b then true else has_digit os position digit) here
has_some (o ∷ os) position digit op (inr k) e = either_true (is_digit (slice_get o.ranks position) digit) (has_digit os position digit) (has_some os position digit op k e)

pick_constant : (b : Bool) (position d : ℕ) (rest : List Constant) (k : Constant) → Has (if b then record { position = position; digit = d } ∷ rest else rest) k → ((b ≡ true) × (record { position = position; digit = d } ≡ k)) ⊎ Has rest k
pick_constant true position d rest k (inl e) = inl (refl, e)
pick_constant true position d rest k (inr h) = inr h
pick_constant false position d rest k h = inr h

constant_some : (ops : List OperationForm) (position : ℕ) (ds : List ℕ) (k : Constant) → Has (constants_at ops position ds) k → has_digit ops k.position k.digit ≡ true
constant_some ops position [] k h = absurd h
constant_some ops position (d ∷ ds) k h = ⊎_elim
    (λ e. subst (λ (x : Constant). has_digit ops x.position x.digit ≡ true) e.1 e.0)
    (λ i. constant_some ops position ds k i)
    (pick_constant (has_digit ops position d) position d (constants_at ops position ds) k h)

digit_positive : (d : ℕ) → Has digits d → 0 < d
digit_positive d h = numbers_least 1 9 d h

constants_real : (ty : TypeForm) (ps : List ℕ) (k : Constant) → Has (constants_of ty.ops ps) k → IsConstant ty k.position k.digit
constants_real ty [] k h = absurd h
constants_real ty (p ∷ ps) k h = ⊎_elim
    (λ i. let own = constants_own ty.ops p digits k i in let s = some_has ty.ops k.position k.digit (constant_some ty.ops p digits k i) in
    (digit_positive k.digit own.1, record { op = s.0; among = s.1; there = s.2 }))
    (λ i. constants_real ty ps k i)
    (has_either (constants_at ty.ops p digits) (constants_of ty.ops ps) k h)

-- each form
queries_only : (sides : SidesForm) (c : Conjunct) → Has (queries sides) c → IsCandidate sides.ty sides.design c
queries_only sides c h = let e = each_has (query_of sides) (numbers_from 0 (length sides.ty.queries)) c h in picked sides (Query e.0) c tt e.2

equals_only : (sides : SidesForm) (c : Conjunct) → Has (equals sides) c → IsCandidate sides.ty sides.design c
equals_only sides c h =
    let e = each_has (equals_of sides (all_leaves sides.design)) (numbers_from 0 (length sides.ty.fields)) c h in
    let l = each_has (equal_of sides e.0) (all_leaves sides.design) c e.2 in
    picked sides (Equal e.0 l.0) c tt l.2

behind_only : (P : Conjunct → Type 0) (more : List LeafRef → List Conjunct) → ((refs : List LeafRef) (c : Conjunct) → Has (more refs) c → P c) → (refs : List LeafRef) (l : LeafRef) (b : Bool) (c : Conjunct)
    → Has (if b then more (refs ++ l ∷ []) else []) c → P c
behind_only P more on refs l true c h = on (refs ++ l ∷ []) c h
behind_only P more on refs l false c h = absurd h

longer_only : (P : Conjunct → Type 0) (more : List LeafRef → List Conjunct) → ((refs : List LeafRef) (c : Conjunct) → Has (more refs) c → P c) → (leaves refs : List LeafRef) (n : ℕ) (b : Bool) (c : Conjunct)
    → Has (if b then each_of (behind_leaf more refs n) leaves else []) c → P c
longer_only P more on leaves refs n true c h = let e = each_has (behind_leaf more refs n) leaves c h in behind_only P more on refs e.0 (nat_eq (e.0).component n) c e.2
longer_only P more on leaves refs n false c h = absurd h

bounds_of_only : (sides : SidesForm) (leaves : List LeafRef) (numbers positions : List ℕ) (refs : List LeafRef) (c : Conjunct) → Has (bounds_of sides leaves numbers positions refs) c → IsCandidate sides.ty sides.design c
bounds_of_only sides leaves numbers [] refs c h = absurd h
bounds_of_only sides leaves numbers (p ∷ ps) refs c h =
    let more = bounds_of sides leaves numbers ps in
    let e = each_has (bound_of sides leaves more refs) numbers c h in
    ⊎_elim
    (λ k. picked sides (Bounded refs e.0) c tt k)
    (λ k. longer_only (IsCandidate sides.ty sides.design) more (λ others d i. bounds_of_only sides leaves numbers ps others d i) leaves refs e.0 (are_of e.0 refs) c k)
    (has_either (chosen sides (Bounded refs e.0)) (longer_of more leaves refs e.0) c e.2)

bounds_only : (sides : SidesForm) (c : Conjunct) → Has (bounds sides) c → IsCandidate sides.ty sides.design c
bounds_only sides c h =
    let e = each_has (first_bound_of sides (all_leaves sides.design) (places_of sides) (positions_of sides.ty)) (all_leaves sides.design) c h in
    bounds_of_only sides (all_leaves sides.design) (places_of sides) (positions_of sides.ty) (e.0 ∷ []) c e.2

at_leasts_only : (sides : SidesForm) (c : Conjunct) → Has (at_leasts sides) c → IsCandidate sides.ty sides.design c
at_leasts_only sides c h =
    let e = each_has (at_leasts_of sides (all_constants sides.ty)) (all_leaves sides.design) c h in
    let k = each_has (at_least_of sides e.0) (all_constants sides.ty) c e.2 in
    picked sides (AtLeast e.0 (k.0).position (k.0).digit) c (constants_real sides.ty (positions_of sides.ty) k.0 k.1) k.2

matches_only : (sides : SidesForm) (c : Conjunct) → Has (matches sides) c → IsCandidate sides.ty sides.design c
matches_only sides c h =
    let f = each_has (matches_of sides (all_constants sides.ty) (all_leaves sides.design) (positions_of sides.ty)) (all_leaves sides.design) c h in
    let p = each_has (matches_at sides (all_constants sides.ty) (all_leaves sides.design) f.0) (positions_of sides.ty) c f.2 in
    let s = each_has (matches_with sides (all_constants sides.ty) f.0 p.0) (all_leaves sides.design) c p.2 in
    let k = each_has (match_of sides f.0 p.0 s.0) (all_constants sides.ty) c s.2 in
    picked sides (Matched f.0 p.0 s.0 (k.0).position (k.0).digit) c (constants_real sides.ty (positions_of sides.ty) k.0 k.1) k.2

totals_only : (sides : SidesForm) (c : Conjunct) → Has (totals sides) c → IsCandidate sides.ty sides.design c
totals_only sides c h = let e = each_has (total_of sides) (numbers_from 0 (length sides.design.components)) c h in picked sides (Total e.0) c tt e.2

either_only : (P : Conjunct → Type 0) (xs ys : List Conjunct) (c : Conjunct) → (Has xs c → P c) → (Has ys c → P c) → Has (xs ++ ys) c → P c
either_only P xs ys c f g h = ⊎_elim f g (has_either xs ys c h)

listed_only : (sides : SidesForm) (c : Conjunct) → Has (candidates_of sides) c → IsCandidate sides.ty sides.design c
listed_only sides c =
    let P = IsCandidate sides.ty sides.design in
    let q = queries sides in let e = equals sides in let b = bounds sides in let a = at_leasts sides in let m = matches sides in
    either_only P (q ++ e ++ b ++ a ++ m) (totals sides) c
    (either_only P (q ++ e ++ b ++ a) m c
    (either_only P (q ++ e ++ b) a c
    (either_only P (q ++ e) b c
    (either_only P q e c (queries_only sides c) (equals_only sides c))
    (bounds_only sides c)) (at_leasts_only sides c)) (matches_only sides c)) (totals_only sides c)

-- from a candidate to its place: numbers, leaves and constants that there are
split_le : (n m : ℕ) → n ≤ m → (n ≡ m) ⊎ (n < m)
split_le zero zero h = inl refl
split_le zero (suc m) h = inr (omega arith)
split_le (suc n) zero h = absurd (omega (arith, h))
split_le (suc n) (suc m) h = ⊎_elim (λ e. inl (ap suc e)) (λ less. inr (omega (arith, less))) (split_le n m (omega (arith, h)))

number_there : (n count m : ℕ) → n ≤ m → m < n + count → Has (numbers_from n count) m
number_there n zero m least less = absurd (omega (arith, least, less))
number_there n (suc count) m least less = ⊎_elim (λ e. inl e) (λ after. inr (number_there (suc n) count m (omega (arith, after)) (omega (arith, less)))) (split_le n m least)

number_among : (count m : ℕ) → m < count → Has (numbers_from 0 count) m
number_among count m less = number_there 0 count m (omega arith) (omega (arith, less))

-- what is tested is there
abbrev IsThere : {A : Type 0} → Option A → Type 0
IsThere {A} o = (x : A) × (o ≡ Some x)

within : {A : Type 0} (xs : List A) (n : ℕ) → IsThere (slice_get xs n) → n < length xs
within xs n there = slice_get_within xs n there.0 there.1

left_there : (a b : Option Kind) → same_kind a b ≡ true → IsThere a
left_there None b h = absurd (false≢true h)
left_there (Some k) b h = (k, refl)

right_there : (a b : Option Kind) → same_kind a b ≡ true → IsThere b
right_there None b h = absurd (false≢true h)
right_there (Some a) None h = absurd (false≢true h)
right_there (Some a) (Some b) h = (b, refl)

mapped_there : {A B : Type 0} (f : A → B) (o : Option A) → IsThere (option_map f o) → IsThere o
mapped_there {A} {B} f None there = absurd (none_some there.0 there.1)
  where
    none_some : (x : B) → None ≡ Some x → ⊥
    none_some x e = cc e
mapped_there f (Some x) there = (x, refl)

flat_there : {A : Type 0} (o : Option (Option A)) → IsThere (option_flatten o) → IsThere o
flat_there {A} None there = absurd (none_some there.0 there.1)
  where
    none_some : (x : A) → None ≡ Some x → ⊥
    none_some x e = cc e
flat_there (Some x) there = (x, refl)

kinds_length : (ops : List OperationForm) → length (rank_kinds ops) ≡ rank_length ops
kinds_length [] = refl
kinds_length (o ∷ os) = length-map o.ranks (element_kind o.params)

position_within : (ty : TypeForm) (position : ℕ) → IsThere (position_kind ty position) → position < rank_length ty.ops
position_within ty position there = let less = within (rank_kinds ty.ops) position (flat_there (slice_get (rank_kinds ty.ops) position) there) in omega (arith, less, kinds_length ty.ops)

position_among : (ty : TypeForm) (position : ℕ) → IsThere (position_kind ty position) → Has (positions_of ty) position
position_among ty position there = number_among (rank_length ty.ops) position (position_within ty position there)

-- leaves
leaf_from : (c from n l : ℕ) (kinds : List Kind) → from + n ≡ l → IsThere (slice_get kinds n) → Has (leaves_from c from kinds) (record { component = c; leaf = l })
leaf_from c from n l [] e there = absurd (nothing_there n there)
  where
    no_kind : (k : Kind) → None ≡ Some k → ⊥
    no_kind k e = cc e

    nothing_there : (n : ℕ) → IsThere (slice_get {X = Kind} [] n) → ⊥
    nothing_there zero t = no_kind t.0 t.1
    nothing_there (suc n) t = no_kind t.0 t.1
leaf_from c from zero l (k ∷ ks) e there = inl (ap (λ (m : ℕ). record { component = c; leaf = m }) (omega (arith, e)))
leaf_from c from (suc n) l (k ∷ ks) e there = inr (leaf_from c (suc from) n l ks (omega (arith, e)) there)

no_leaf : (l : ℕ) (k : Kind) → leaf_kind None l ≡ Some k → ⊥
no_leaf l k e = cc e

leaf_in : (from n c l : ℕ) (components : List ComponentForm) → from + n ≡ c → IsThere (leaf_kind (slice_get components n) l) → Has (leaves_of from components) (record { component = c; leaf = l })
leaf_in from n c l [] e there = absurd (no_component n there)
  where
    no_component : (n : ℕ) → IsThere (leaf_kind (slice_get {X = ComponentForm} [] n) l) → ⊥
    no_component zero t = no_leaf l t.0 t.1
    no_component (suc n) t = no_leaf l t.0 t.1
leaf_in from zero c l (x ∷ xs) e there = has_front (leaves_from from 0 (component_kinds x)) (leaves_of (suc from) xs) (record { component = c; leaf = l })
    (subst (λ (m : ℕ). Has (leaves_from from 0 (component_kinds x)) (record { component = m; leaf = l })) (omega (arith, e)) (leaf_from from 0 l l (component_kinds x) (omega arith) there))
leaf_in from (suc n) c l (x ∷ xs) e there = has_behind (leaves_from from 0 (component_kinds x)) (leaves_of (suc from) xs) (record { component = c; leaf = l })
    (leaf_in (suc from) n c l xs (omega (arith, e)) there)

leaf_among : (design : DesignForm) (ref : LeafRef) → IsThere (ref_kind design.components ref) → Has (all_leaves design) ref
leaf_among design ref there = leaf_in 0 ref.component ref.component ref.leaf design.components (omega arith) there

-- constants
constant_here : (b : Bool) (position d : ℕ) (rest : List Constant) → b ≡ true → Has (if b then record { position = position; digit = d } ∷ rest else rest) (record { position = position; digit = d })
constant_here true position d rest e = inl refl
constant_here false position d rest e = absurd (false≢true e)

constant_later : (b : Bool) (position d : ℕ) (rest : List Constant) (k : Constant) → Has rest k → Has (if b then record { position = position; digit = d } ∷ rest else rest) k
constant_later true position d rest k h = inr h
constant_later false position d rest k h = h

constant_at : (ops : List OperationForm) (position digit : ℕ) (ds : List ℕ) → has_digit ops position digit ≡ true → Has ds digit → Has (constants_at ops position ds) (record { position = position; digit = digit })
constant_at ops position digit [] some h = absurd h
constant_at ops position digit (d ∷ ds) some (inl e) = subst (λ (n : ℕ). Has (constants_at ops position (d ∷ ds)) (record { position = position; digit = n })) e
    (constant_here (has_digit ops position d) position d (constants_at ops position ds) (ap (has_digit ops position) e ∙ some))
constant_at ops position digit (d ∷ ds) some (inr h) = constant_later (has_digit ops position d) position d (constants_at ops position ds) (record { position = position; digit = digit }) (constant_at ops position digit ds some h)

constant_in : (ops : List OperationForm) (position digit : ℕ) (ps : List ℕ) → has_digit ops position digit ≡ true → Has ps position → Has digits digit → Has (constants_of ops ps) (record { position = position; digit = digit })
constant_in ops position digit [] some h d = absurd h
constant_in ops position digit (p ∷ ps) some (inl e) d = subst (λ (n : ℕ). Has (constants_of ops (p ∷ ps)) (record { position = n; digit = digit })) e
    (has_front (constants_at ops p digits) (constants_of ops ps) (record { position = p; digit = digit }) (constant_at ops p digit digits (ap (λ n. has_digit ops n digit) e ∙ some) d))
constant_in ops position digit (p ∷ ps) some (inr h) d = has_behind (constants_at ops p digits) (constants_of ops ps) (record { position = position; digit = digit }) (constant_in ops position digit ps some h d)

digit_among : (d : ℕ) → 0 < d → d ≤ 9 → Has digits d
digit_among d positive few = number_there 1 9 d (omega (arith, positive)) (omega (arith, few))

small_digit : (d : ℕ) → nat_le d 9 ≡ true → d ≤ 9
small_digit d h = leb-true d 9 h

constant_among : (ty : TypeForm) (position digit : ℕ) → digit_fits ty position digit ≡ true → IsConstant ty position digit → Has (all_constants ty) (record { position = position; digit = digit })
constant_among ty position digit fits constant =
    let both = and_both (same_kind (position_kind ty position) (Some kind.Number)) (nat_le digit 9) fits in
    constant_in ty.ops position digit (positions_of ty) (has_some ty.ops position digit constant.1.op constant.1.among constant.1.there)
    (position_among ty position (left_there (position_kind ty position) (Some kind.Number) both.0)) (digit_among digit constant.0 (small_digit digit both.1))

-- each form
query_there : (o : Option QueryForm) → query_fits o ≡ true → IsThere o
query_there None h = absurd (false≢true h)
query_there (Some q) h = (q, refl)

query_in : (sides : SidesForm) (n : ℕ) → IsCandidate sides.ty sides.design (Query n) → Has (queries sides) (Query n)
query_in sides n h = has_each (query_of sides) (numbers_from 0 (length sides.ty.queries)) n (Query n) (number_among (length sides.ty.queries) n (within sides.ty.queries n (query_there (slice_get sides.ty.queries n) h.0))) (has_chosen sides (Query n) h.0)

field_there : (o : Option Field) → IsThere (field_kind o) → IsThere o
field_there None t = absurd (no_kind t.0 t.1)
  where
    no_kind : (k : Kind) → field_kind None ≡ Some k → ⊥
    no_kind k e = cc e
field_there (Some f) t = (f, refl)

equal_in : (sides : SidesForm) (f : ℕ) (leaf : LeafRef) → IsCandidate sides.ty sides.design (Equal f leaf) → Has (equals sides) (Equal f leaf)
equal_in sides f leaf h =
    let field = field_kind (slice_get sides.ty.fields f) in let own = ref_kind sides.design.components leaf in
    let both = and_both (same_kind field own) (same_keys (field_key (slice_get sides.ty.fields f)) (component_key (slice_get sides.design.components leaf.component))) h.0 in
    has_each (equals_of sides (all_leaves sides.design)) (numbers_from 0 (length sides.ty.fields)) f (Equal f leaf)
    (number_among (length sides.ty.fields) f (within sides.ty.fields f (field_there (slice_get sides.ty.fields f) (left_there field own both.0))))
    (has_each (equal_of sides f) (all_leaves sides.design) leaf (Equal f leaf) (leaf_among sides.design leaf (right_there field own both.0)) (has_chosen sides (Equal f leaf) h.0))

at_least_in : (sides : SidesForm) (leaf : LeafRef) (position digit : ℕ) → IsCandidate sides.ty sides.design (AtLeast leaf position digit) → Has (at_leasts sides) (AtLeast leaf position digit)
at_least_in sides leaf position digit h =
    let both = and_both (same_kind (ref_kind sides.design.components leaf) (Some kind.Truth)) (digit_fits sides.ty position digit) h.0 in
    has_each (at_leasts_of sides (all_constants sides.ty)) (all_leaves sides.design) leaf (AtLeast leaf position digit) (leaf_among sides.design leaf (left_there (ref_kind sides.design.components leaf) (Some kind.Truth) both.0))
    (has_each (at_least_of sides leaf) (all_constants sides.ty) (record { position = position; digit = digit }) (AtLeast leaf position digit)
    (constant_among sides.ty position digit both.1 h.1) (has_chosen sides (AtLeast leaf position digit) h.0))

match_in : (sides : SidesForm) (first : LeafRef) (position : ℕ) (second : LeafRef) (later digit : ℕ) → IsCandidate sides.ty sides.design (Matched first position second later digit)
    → Has (matches sides) (Matched first position second later digit)
match_in sides first position second later digit h =
    let c = Matched first position second later digit in
    let a = is_ordered (ref_kind sides.design.components first) in
    let b = same_kind (ref_kind sides.design.components first) (position_kind sides.ty position) in
    let d = same_kind (ref_kind sides.design.components second) (Some kind.Truth) in
    let e = nat_eq first.component second.component in
    let f = nat_lt position later in
    let five = and_both (a && b && d && e && f) (digit_fits sides.ty later digit) h.0 in
    let four = and_both (a && b && d && e) f five.0 in
    let three = and_both (a && b && d) e four.0 in
    let two = and_both (a && b) d three.0 in
    let one = and_both a b two.0 in
    has_each (matches_of sides (all_constants sides.ty) (all_leaves sides.design) (positions_of sides.ty)) (all_leaves sides.design) first c (leaf_among sides.design first (left_there (ref_kind sides.design.components first) (position_kind sides.ty position) one.1))
    (has_each (matches_at sides (all_constants sides.ty) (all_leaves sides.design) first) (positions_of sides.ty) position c (position_among sides.ty position (right_there (ref_kind sides.design.components first) (position_kind sides.ty position) one.1))
    (has_each (matches_with sides (all_constants sides.ty) first position) (all_leaves sides.design) second c (leaf_among sides.design second (left_there (ref_kind sides.design.components second) (Some kind.Truth) two.1))
    (has_each (match_of sides first position second) (all_constants sides.ty) (record { position = later; digit = digit }) c (constant_among sides.ty later digit five.1 h.1) (has_chosen sides c h.0))))

sums_there : (o : Option ComponentForm) → has_sums o ≡ true → IsThere o
sums_there None h = absurd (false≢true h)
sums_there (Some x) h = (x, refl)

total_in : (sides : SidesForm) (n : ℕ) → IsCandidate sides.ty sides.design (Total n) → Has (totals sides) (Total n)
total_in sides n h = has_each (total_of sides) (numbers_from 0 (length sides.design.components)) n (Total n)
    (number_among (length sides.design.components) n (within sides.design.components n (sums_there (slice_get sides.design.components n) h.0))) (has_chosen sides (Total n) h.0)

-- bounds: leaf by leaf
are_of_last : (c : ℕ) (refs : List LeafRef) (ref : LeafRef) → are_of c refs ≡ true → nat_eq ref.component c ≡ true → are_of c (refs ++ ref ∷ []) ≡ true
are_of_last c [] ref h e = and_from (nat_eq ref.component c) true e refl
are_of_last c (r ∷ refs) ref h e = let both = and_both (nat_eq r.component c) (are_of c refs) h in and_from (nat_eq r.component c) (are_of c (refs ++ ref ∷ [])) both.0 (are_of_last c refs ref both.1 e)

if_true : (b : Bool) (xs : List Conjunct) (c : Conjunct) → b ≡ true → Has xs c → Has (if b then xs else []) c
if_true true xs c e h = h
if_true false xs c e h = absurd (false≢true e)

abbrev AllLeaves : DesignForm → List LeafRef → Type 0
AllLeaves design refs = (ref : LeafRef) → Has refs ref → Has (all_leaves design) ref

bound_in : (sides : SidesForm) (numbers : List ℕ) (c position : ℕ) → Has numbers position → Has numbers c → (ps : List ℕ) (refs more : List LeafRef)
    → length more < length ps → are_of c refs ≡ true → are_of c more ≡ true → AllLeaves sides.design more
    → conjunct_fits sides.ty sides.design.components (Bounded (refs ++ more) position) ≡ true → Has (bounds_of sides (all_leaves sides.design) numbers ps refs) (Bounded (refs ++ more) position)
bound_in sides numbers c position at own [] refs more few same others leaves fits = absurd (omega (arith, few))
bound_in sides numbers c position at own (p ∷ ps) refs [] few same others leaves fits =
    let rest = bounds_of sides (all_leaves sides.design) numbers ps in
    let whole : refs ++ [] ≡ refs = append-nil refs in
    has_each (bound_of sides (all_leaves sides.design) rest refs) numbers position (Bounded (refs ++ []) position) at
    (has_front (chosen sides (Bounded refs position)) (longer_of rest (all_leaves sides.design) refs position) (Bounded (refs ++ []) position)
    (subst (λ (rs : List LeafRef). conjunct_fits sides.ty sides.design.components (Bounded rs position) ≡ true → Has (chosen sides (Bounded refs position)) (Bounded rs position)) (sym whole) (has_chosen sides (Bounded refs position)) fits))
bound_in sides numbers c position at own (p ∷ ps) refs (m ∷ ms) few same others leaves fits =
    let rest = bounds_of sides (all_leaves sides.design) numbers ps in
    let both = and_both (nat_eq m.component c) (are_of c ms) others in
    let whole : (refs ++ m ∷ []) ++ ms ≡ refs ++ m ∷ ms = append_assoc refs (m ∷ []) ms in
    let k = Bounded (refs ++ m ∷ ms) position in
    has_each (bound_of sides (all_leaves sides.design) rest refs) numbers c k own
    (has_behind (chosen sides (Bounded refs c)) (longer_of rest (all_leaves sides.design) refs c) k
    (if_true (are_of c refs) (each_of (behind_leaf rest refs c) (all_leaves sides.design)) k same
    (has_each (behind_leaf rest refs c) (all_leaves sides.design) m k (leaves m (inl refl))
    (if_true (nat_eq m.component c) (rest (refs ++ m ∷ [])) k both.0
    (subst (λ (rs : List LeafRef). conjunct_fits sides.ty sides.design.components (Bounded rs position) ≡ true → Has (rest (refs ++ m ∷ [])) (Bounded rs position)) whole
    (λ fit. bound_in sides numbers c position at own ps (refs ++ m ∷ []) ms (omega (arith, few)) (are_of_last c refs m same both.0) both.1 (λ ref h. leaves ref (inr h)) fit) fits)))))

matched_leaves : (design : DesignForm) (refs : List LeafRef) (kinds : List (Option Kind)) → match_elements design.components refs kinds ≡ true → AllLeaves design refs
matched_leaves design [] kinds h ref has = absurd has
matched_leaves design (r ∷ refs) [] h ref has = absurd (false≢true h)
matched_leaves design (r ∷ refs) (k ∷ ks) h ref (inl e) =
    let both = and_both (same_kind (option_map as_ranked (ref_kind design.components r)) k) (match_elements design.components refs ks) h in
    subst (Has (all_leaves design)) e (leaf_among design r (mapped_there as_ranked (ref_kind design.components r) (left_there (option_map as_ranked (ref_kind design.components r)) k both.0)))
matched_leaves design (r ∷ refs) (k ∷ ks) h ref (inr has) =
    let both = and_both (same_kind (option_map as_ranked (ref_kind design.components r)) k) (match_elements design.components refs ks) h in
    matched_leaves design refs ks both.1 ref has

matched_few : (components : List ComponentForm) (refs : List LeafRef) (kinds : List (Option Kind)) → match_elements components refs kinds ≡ true → length refs ≤ length kinds
matched_few components [] kinds h = omega arith
matched_few components (r ∷ refs) [] h = absurd (false≢true h)
matched_few components (r ∷ refs) (k ∷ ks) h =
    let both = and_both (same_kind (option_map as_ranked (ref_kind components r)) k) (match_elements components refs ks) h in
    let rest = matched_few components refs ks both.1 in omega (arith, rest)

some_left : {A : Type 0} (xs : List A) (n : ℕ) → 0 < length (drop n xs) → n < length xs
some_left [] zero h = absurd (omega (arith, h))
some_left [] (suc n) h = absurd (omega (arith, h))
some_left (x ∷ xs) zero h = omega arith
some_left (x ∷ xs) (suc n) h = let less = some_left xs n h in omega (arith, less)

fewer_left : {A : Type 0} (xs : List A) (n : ℕ) → length (drop n xs) ≤ length xs
fewer_left [] zero = omega arith
fewer_left [] (suc n) = omega arith
fewer_left (x ∷ xs) zero = omega arith
fewer_left (x ∷ xs) (suc n) = let few = fewer_left xs n in omega (arith, few)

rising_there : (o : Option ComponentForm) → has_rising_leaves o ≡ true → IsThere o
rising_there None h = absurd (false≢true h)
rising_there (Some x) h = (x, refl)

numbers_length : (n count : ℕ) → length (numbers_from n count) ≡ count
numbers_length n zero = refl
numbers_length n (suc count) = ap suc (numbers_length (suc n) count)

same_number : (n : ℕ) → nat_eq n n ≡ true
same_number n = eq-eqb n n refl

bounded_in : (sides : SidesForm) (refs : List LeafRef) (position : ℕ) → IsCandidate sides.ty sides.design (Bounded refs position) → Has (bounds sides) (Bounded refs position)
bounded_in sides [] position h = absurd (false≢true h.0)
bounded_in sides (ref ∷ refs) position h =
    let components = sides.design.components in
    let kinds = drop position (rank_kinds sides.ty.ops) in
    let a = has_rising_leaves (slice_get components ref.component) in
    let b = are_of ref.component refs in
    let c = are_apart (ref ∷ refs) in
    let matched = and_both (a && b && c) (match_elements components (ref ∷ refs) kinds) h.0 in
    let two = and_both (a && b) c matched.0 in
    let one = and_both a b two.0 in
    let leaves = matched_leaves sides.design (ref ∷ refs) kinds matched.1 in
    let few = matched_few components (ref ∷ refs) kinds matched.1 in
    let most = fewer_left (rank_kinds sides.ty.ops) position in
    let some = some_left (rank_kinds sides.ty.ops) position (omega (arith, few)) in
    let there = within components ref.component (rising_there (slice_get components ref.component) one.0) in
    let count = max (rank_length sides.ty.ops) (length components) in
    has_each (first_bound_of sides (all_leaves sides.design) (places_of sides) (positions_of sides.ty)) (all_leaves sides.design) ref (Bounded (ref ∷ refs) position) (leaves ref (inl refl))
    (bound_in sides (places_of sides) ref.component position
    (number_among count position (omega (arith, some, kinds_length sides.ty.ops))) (number_among count ref.component (omega (arith, there)))
    (positions_of sides.ty) (ref ∷ []) refs (omega (arith, few, most, kinds_length sides.ty.ops, numbers_length 0 (rank_length sides.ty.ops)))
    (and_from (nat_eq ref.component ref.component) true (same_number ref.component) refl) one.1 (λ r has. leaves r (inr has)) h.0)

-- all of them
is_listed : (sides : SidesForm) (c : Conjunct) → IsCandidate sides.ty sides.design c → Has (candidates_of sides) c
is_listed sides (Query n) h =
    has_front (queries sides ++ equals sides ++ bounds sides ++ at_leasts sides ++ matches sides) (totals sides) (Query n)
    (has_front (queries sides ++ equals sides ++ bounds sides ++ at_leasts sides) (matches sides) (Query n)
    (has_front (queries sides ++ equals sides ++ bounds sides) (at_leasts sides) (Query n)
    (has_front (queries sides ++ equals sides) (bounds sides) (Query n)
    (has_front (queries sides) (equals sides) (Query n) (query_in sides n h)))))
is_listed sides (Equal f leaf) h =
    has_front (queries sides ++ equals sides ++ bounds sides ++ at_leasts sides ++ matches sides) (totals sides) (Equal f leaf)
    (has_front (queries sides ++ equals sides ++ bounds sides ++ at_leasts sides) (matches sides) (Equal f leaf)
    (has_front (queries sides ++ equals sides ++ bounds sides) (at_leasts sides) (Equal f leaf)
    (has_front (queries sides ++ equals sides) (bounds sides) (Equal f leaf)
    (has_behind (queries sides) (equals sides) (Equal f leaf) (equal_in sides f leaf h)))))
is_listed sides (Bounded refs position) h =
    has_front (queries sides ++ equals sides ++ bounds sides ++ at_leasts sides ++ matches sides) (totals sides) (Bounded refs position)
    (has_front (queries sides ++ equals sides ++ bounds sides ++ at_leasts sides) (matches sides) (Bounded refs position)
    (has_front (queries sides ++ equals sides ++ bounds sides) (at_leasts sides) (Bounded refs position)
    (has_behind (queries sides ++ equals sides) (bounds sides) (Bounded refs position) (bounded_in sides refs position h))))
is_listed sides (AtLeast leaf position digit) h =
    has_front (queries sides ++ equals sides ++ bounds sides ++ at_leasts sides ++ matches sides) (totals sides) (AtLeast leaf position digit)
    (has_front (queries sides ++ equals sides ++ bounds sides ++ at_leasts sides) (matches sides) (AtLeast leaf position digit)
    (has_behind (queries sides ++ equals sides ++ bounds sides) (at_leasts sides) (AtLeast leaf position digit) (at_least_in sides leaf position digit h)))
is_listed sides (Matched first position second later digit) h =
    has_front (queries sides ++ equals sides ++ bounds sides ++ at_leasts sides ++ matches sides) (totals sides) (Matched first position second later digit)
    (has_behind (queries sides ++ equals sides ++ bounds sides ++ at_leasts sides) (matches sides) (Matched first position second later digit) (match_in sides first position second later digit h))
is_listed sides (Total n) h =
    has_behind (queries sides ++ equals sides ++ bounds sides ++ at_leasts sides ++ matches sides) (totals sides) (Total n) (total_in sides n h)

pub listed_are_candidates : (sides : SidesForm) → AreCandidates sides.ty sides.design (candidates_of sides)
listed_are_candidates sides = record {
  members = λ c. (listed_only sides c, is_listed sides c);
  ascending = ascend_pairs (candidates_of sides) (listed_ascend sides);
}
