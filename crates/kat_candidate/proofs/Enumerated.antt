-- What is listed form by form ascends.
use Rattle.std.proofs.Common.{◌≡◌, ℕ, zero, suc, ◌+◌, ◌<◌, ◌≤◌, ◌⊎◌, inl, inr, ⊎_elim, Bool, true, false, if◌then◌else◌, List, [], ◌∷◌, ◌++◌, length, max, refl, sym, ap, subst, ◌∙◌, arith}
use Rattle.std.specs.Prelude.{nat_eq}
use Rattle.std.proofs.lemmas.Bool.{eqb-true}
use Rattle.std.proofs.lemmas.List.{append_assoc, append-nil}
use Rattle.kat_design.specs.Designs.{ComponentForm, DesignForm}
use Rattle.kat_design.specs.Kinds.{component_kinds}
use Rattle.kat_design.specs.declared.kinds.Kind.{Kind}
use Rattle.kat_relation.specs.Fits.{are_of, conjunct_fits}
use Rattle.kat_relation.specs.declared.relations.Conjunct.{Conjunct}
use Rattle.kat_relation.specs.declared.relations.Conjunct.TheVariants.{Query, Equal, Bounded, AtLeast, Matched, Total}
use Rattle.kat_relation.specs.declared.relations.LeafRef.{LeafRef}
use Rattle.kat_type.specs.Lists.{Has}
use Rattle.kat_type.specs.Types.{OperationForm}
use Rattle.kat_type.proofs.Lists.{has_front, has_behind, has_either}
use Rattle.kat_candidate.specs.Texts.{Precedes, is_less, leaf_text, leaves_text, text_of}
use Rattle.kat_candidate.specs.Listed.{all_constants, all_leaves, at_leasts, bounds, candidates_of, equals, matches, places_of, positions_of, queries, totals}
use Rattle.kat_candidate.specs.Forms.{SidesForm, at_least_of, at_leasts_of, behind_leaf, bound_of, bounds_of, chosen, each_of, equal_of, equals_of, first_bound_of, longer_of, match_of, matches_at, matches_of, matches_with, query_of, total_of}
use Rattle.kat_candidate.specs.Parts.{constants_at, constants_of, digits, has_digit, leaves_from, leaves_of, numbers_from, rank_length}
use Rattle.kat_candidate.specs.declared.parts.Constant.{Constant}
use Rattle.kat_candidate.proofs.Orders.{Ascend, Before, Fronted, HasFront, apart, ascend_append, first_before, longer_behind, number_before, second_before, shorter}

-- members of what is listed for each element
pub each_has : {X : Type 0} (f : X → List Conjunct) (xs : List X) (c : Conjunct) → Has (each_of f xs) c → (x : X) × Has xs x × Has (f x) c
each_has f [] c h = absurd h
each_has f (x ∷ xs) c h = ⊎_elim (λ k. (x, inl refl, k)) (λ k. let e = each_has f xs c k in (e.0, inr e.1, e.2)) (has_either (f x) (each_of f xs) c h)

pub has_each : {X : Type 0} (f : X → List Conjunct) (xs : List X) (x : X) (c : Conjunct) → Has xs x → Has (f x) c → Has (each_of f xs) c
has_each {X} f (y ∷ ys) x c (inl e) has = has_front (f y) (each_of f ys) c (subst (λ z. Has (f z) c) (sym e) has)
has_each f (y ∷ ys) x c (inr k) has = has_behind (f y) (each_of f ys) c (has_each f ys x c k has)
has_each f [] x c h has = absurd h

-- elements with ascending keys
abbrev pub KeysAscend : {X : Type 0} → (X → List ℕ) → List X → Type 0
KeysAscend {X} key [] = Unit {0}
KeysAscend {X} key (x ∷ xs) = ((y : X) → Has xs y → Before (key x) (key y)) × KeysAscend key xs

pub each_ascend : {X : Type 0} (key : X → List ℕ) (p : List ℕ) (f : X → List Conjunct) (xs : List X) → KeysAscend key xs → ((x : X) → Fronted (p ++ key x) (f x)) → ((x : X) → Ascend (f x)) → Ascend (each_of f xs)
each_ascend key p f [] k fronts a = tt
each_ascend key p f (x ∷ xs) k fronts a = ascend_append (f x) (each_of f xs) (a x) (each_ascend key p f xs k.1 fronts a)
    (λ c d h i. let e = each_has f xs d i in apart p (key x) (key e.0) c d (k.0 e.0 e.1) (fronts x c h) (fronts e.0 d e.2))

pub each_fronted : {X : Type 0} (p : List ℕ) (f : X → List Conjunct) (xs : List X) → ((x : X) → Fronted p (f x)) → Fronted p (each_of f xs)
each_fronted p f xs fronts c h = let e = each_has f xs c h in fronts e.0 c e.2

pub each_shorter : {X : Type 0} (p : List ℕ) (key : X → List ℕ) (f : X → List Conjunct) (xs : List X) → ((x : X) → Fronted (p ++ key x) (f x)) → Fronted p (each_of f xs)
each_shorter p key f xs fronts = each_fronted p f xs (λ x. shorter p (key x) (f x) (fronts x))

-- numbers, leaves and constants ascend
pub numbers_least : (n count m : ℕ) → Has (numbers_from n count) m → n ≤ m
numbers_least n zero m h = absurd h
numbers_least n (suc count) m (inl e) = omega (arith, e)
numbers_least n (suc count) m (inr h) = let rest = numbers_least (suc n) count m h in omega (arith, rest)

abbrev pub number_key : ℕ → List ℕ
number_key n = n ∷ []

pub numbers_ascend : (n count : ℕ) → KeysAscend number_key (numbers_from n count)
numbers_ascend n zero = tt
numbers_ascend n (suc count) = (λ m h. let least = numbers_least (suc n) count m h in number_before n m (omega (arith, least)), numbers_ascend (suc n) count)

leaves_own : (c l : ℕ) (kinds : List Kind) (ref : LeafRef) → Has (leaves_from c l kinds) ref → (ref.component ≡ c) × (l ≤ ref.leaf)
leaves_own c l [] ref h = absurd h
leaves_own c l (k ∷ ks) ref (inl e) = (sym (ap (λ (r : LeafRef). r.component) e), let at = ap (λ (r : LeafRef). r.leaf) e in omega (arith, at))
leaves_own c l (k ∷ ks) ref (inr h) = let rest = leaves_own c (suc l) ks ref h in (rest.0, let least = rest.1 in omega (arith, least))

leaf_later : (c l : ℕ) (ref : LeafRef) → ref.component ≡ c → l < ref.leaf → Before (c ∷ l ∷ []) (leaf_text ref)
leaf_later c l ref e less = subst (λ d. Before (c ∷ l ∷ []) (d ∷ ref.leaf ∷ [])) (sym e) (second_before c l ref.leaf less)

leaves_from_ascend : (c l : ℕ) (kinds : List Kind) → KeysAscend leaf_text (leaves_from c l kinds)
leaves_from_ascend c l [] = tt
leaves_from_ascend c l (k ∷ ks) = (λ ref h. let own = leaves_own c (suc l) ks ref h in leaf_later c l ref own.0 own.1, leaves_from_ascend c (suc l) ks)

leaves_least : (c : ℕ) (components : List ComponentForm) (ref : LeafRef) → Has (leaves_of c components) ref → c ≤ ref.component
leaves_least c [] ref h = absurd h
leaves_least c (x ∷ xs) ref h = ⊎_elim
    (λ k. let own = leaves_own c 0 (component_kinds x) ref k in let at = own.0 in omega (arith, at))
    (λ k. let rest = leaves_least (suc c) xs ref k in omega (arith, rest))
    (has_either (leaves_from c 0 (component_kinds x)) (leaves_of (suc c) xs) ref h)

keys_append : {X : Type 0} (key : X → List ℕ) (xs ys : List X) → KeysAscend key xs → KeysAscend key ys → ((x y : X) → Has xs x → Has ys y → Before (key x) (key y)) → KeysAscend key (xs ++ ys)
keys_append key [] ys a b below = b
keys_append key (x ∷ xs) ys a b below = (
  λ y h. ⊎_elim (λ k. a.0 y k) (λ k. below x y (inl refl) k) (has_either xs ys y h),
  keys_append key xs ys a.1 b (λ u v h k. below u v (inr h) k),
)

pub leaves_ascend : (c : ℕ) (components : List ComponentForm) → KeysAscend leaf_text (leaves_of c components)
leaves_ascend c [] = tt
leaves_ascend c (x ∷ xs) = keys_append leaf_text (leaves_from c 0 (component_kinds x)) (leaves_of (suc c) xs) (leaves_from_ascend c 0 (component_kinds x)) (leaves_ascend (suc c) xs)
    (λ a b h k. let own = (leaves_own c 0 (component_kinds x) a h).0 in let least = leaves_least (suc c) xs b k in
    first_before a.component a.leaf b.component b.leaf (omega (arith, own, least)))

abbrev pub constant_key : Constant → List ℕ
constant_key k = k.position ∷ k.digit ∷ []

-- the digits, each less than the later ones
abbrev DigitsAscend : List ℕ → Type 0
DigitsAscend [] = Unit {0}
DigitsAscend (d ∷ ds) = ((e : ℕ) → Has ds e → d < e) × DigitsAscend ds

picked_own : (b : Bool) (position d : ℕ) (rest : List Constant) (k : Constant) → Has (if b then record { position = position; digit = d } ∷ rest else rest) k → (record { position = position; digit = d } ≡ k) ⊎ Has rest k
picked_own true position d rest k h = h
picked_own false position d rest k h = inr h

pub constants_own : (ops : List OperationForm) (position : ℕ) (ds : List ℕ) (k : Constant) → Has (constants_at ops position ds) k → (k.position ≡ position) × Has ds k.digit
constants_own ops position [] k h = absurd h
constants_own ops position (d ∷ ds) k h = ⊎_elim
    (λ e. (sym (ap (λ (x : Constant). x.position) e), inl (ap (λ (x : Constant). x.digit) e)))
    (λ i. let rest = constants_own ops position ds k i in (rest.0, inr rest.1))
    (picked_own (has_digit ops position d) position d (constants_at ops position ds) k h)

constant_later : (position d : ℕ) (k : Constant) → k.position ≡ position → d < k.digit → Before (position ∷ d ∷ []) (constant_key k)
constant_later position d k e less = subst (λ p. Before (position ∷ d ∷ []) (p ∷ k.digit ∷ [])) (sym e) (second_before position d k.digit less)

picked_ascend : (b : Bool) (position d : ℕ) (rest : List Constant) → KeysAscend constant_key rest → ((k : Constant) → Has rest k → Before (position ∷ d ∷ []) (constant_key k))
    → KeysAscend constant_key (if b then record { position = position; digit = d } ∷ rest else rest)
picked_ascend true position d rest a below = (below, a)
picked_ascend false position d rest a below = a

constants_at_ascend : (ops : List OperationForm) (position : ℕ) (ds : List ℕ) → DigitsAscend ds → KeysAscend constant_key (constants_at ops position ds)
constants_at_ascend ops position [] a = tt
constants_at_ascend ops position (d ∷ ds) a = picked_ascend (has_digit ops position d) position d (constants_at ops position ds) (constants_at_ascend ops position ds a.1)
    (λ k h. let own = constants_own ops position ds k h in constant_later position d k own.0 (a.0 k.digit own.1))

digits_from : (n left : ℕ) → DigitsAscend (numbers_from n left)
digits_from n zero = tt
digits_from n (suc left) = (λ e h. let least = numbers_least (suc n) left e h in omega (arith, least), digits_from (suc n) left)

digits_ascend : DigitsAscend digits
digits_ascend = digits_from 1 9

constants_least : (ops : List OperationForm) (n count : ℕ) (k : Constant) → Has (constants_of ops (numbers_from n count)) k → n ≤ k.position
constants_least ops n zero k h = absurd h
constants_least ops n (suc count) k h = ⊎_elim
    (λ i. let own = (constants_own ops n digits k i).0 in omega (arith, own))
    (λ i. let rest = constants_least ops (suc n) count k i in omega (arith, rest))
    (has_either (constants_at ops n digits) (constants_of ops (numbers_from (suc n) count)) k h)

pub constants_ascend : (ops : List OperationForm) (n count : ℕ) → KeysAscend constant_key (constants_of ops (numbers_from n count))
constants_ascend ops n zero = tt
constants_ascend ops n (suc count) = keys_append constant_key (constants_at ops n digits) (constants_of ops (numbers_from (suc n) count)) (constants_at_ascend ops n digits digits_ascend) (constants_ascend ops (suc n) count)
    (λ a b h k. let own = (constants_own ops n digits a h).0 in let least = constants_least ops (suc n) count b k in
    first_before a.position a.digit b.position b.digit (omega (arith, own, least)))

-- a conjunct, provided that it fits
picked_only : (b : Bool) (c d : Conjunct) → Has (if b then c ∷ [] else []) d → (c ≡ d) × (b ≡ true)
picked_only true c d (inl e) = (e, refl)
picked_only true c d (inr h) = absurd h
picked_only false c d h = absurd h

pub chosen_only : (sides : SidesForm) (c d : Conjunct) → Has (chosen sides c) d → (c ≡ d) × (conjunct_fits sides.ty sides.design.components c ≡ true)
chosen_only sides c d h = picked_only (conjunct_fits sides.ty sides.design.components c) c d h

pub has_chosen : (sides : SidesForm) (c : Conjunct) → conjunct_fits sides.ty sides.design.components c ≡ true → Has (chosen sides c) c
has_chosen sides c e = picked (conjunct_fits sides.ty sides.design.components c) e
  where
    picked : (b : Bool) → b ≡ true → Has (if b then c ∷ [] else []) c
    picked true e = inl refl
    picked false e = absurd (cc e)

picked_ascends : (b : Bool) (c : Conjunct) → Ascend (if b then c ∷ [] else [])
picked_ascends true c = (λ d h. absurd h, tt)
picked_ascends false c = tt

chosen_ascend : (sides : SidesForm) (c : Conjunct) → Ascend (chosen sides c)
chosen_ascend sides c = picked_ascends (conjunct_fits sides.ty sides.design.components c) c

chosen_fronted : (sides : SidesForm) (p : List ℕ) (c : Conjunct) → text_of c ≡ p ++ [] → Fronted p (chosen sides c)
chosen_fronted sides p c is d h = let only = chosen_only sides c d h in ([], sym (ap text_of only.0) ∙ is)

-- form by form
queries_fronted : (sides : SidesForm) → Fronted (0 ∷ []) (queries sides)
queries_fronted sides = each_shorter (0 ∷ []) number_key (query_of sides) (numbers_from 0 (length sides.ty.queries)) (λ n. chosen_fronted sides (0 ∷ n ∷ []) (Query n) refl)

queries_ascend : (sides : SidesForm) → Ascend (queries sides)
queries_ascend sides = each_ascend number_key (0 ∷ []) (query_of sides) (numbers_from 0 (length sides.ty.queries)) (numbers_ascend 0 (length sides.ty.queries)) (λ n. chosen_fronted sides (0 ∷ n ∷ []) (Query n) refl) (λ n. chosen_ascend sides (Query n))

equals_of_fronted : (sides : SidesForm) (leaves : List LeafRef) (field : ℕ) → Fronted (1 ∷ field ∷ []) (equals_of sides leaves field)
equals_of_fronted sides leaves field = each_shorter (1 ∷ field ∷ []) leaf_text (equal_of sides field) leaves (λ l. chosen_fronted sides (1 ∷ field ∷ leaf_text l) (Equal field l) refl)

equals_of_ascend : (sides : SidesForm) (field : ℕ) → Ascend (equals_of sides (all_leaves sides.design) field)
equals_of_ascend sides field = each_ascend leaf_text (1 ∷ field ∷ []) (equal_of sides field) (all_leaves sides.design) (leaves_ascend 0 sides.design.components)
    (λ l. chosen_fronted sides (1 ∷ field ∷ leaf_text l) (Equal field l) refl) (λ l. chosen_ascend sides (Equal field l))

equals_fronted : (sides : SidesForm) → Fronted (1 ∷ []) (equals sides)
equals_fronted sides = each_shorter (1 ∷ []) number_key (equals_of sides (all_leaves sides.design)) (numbers_from 0 (length sides.ty.fields)) (λ n. equals_of_fronted sides (all_leaves sides.design) n)

equals_ascend : (sides : SidesForm) → Ascend (equals sides)
equals_ascend sides = each_ascend number_key (1 ∷ []) (equals_of sides (all_leaves sides.design)) (numbers_from 0 (length sides.ty.fields)) (numbers_ascend 0 (length sides.ty.fields)) (λ n. equals_of_fronted sides (all_leaves sides.design) n) (λ n. equals_of_ascend sides n)

-- bounds
leaves_text_last : (refs : List LeafRef) (l : LeafRef) → leaves_text (refs ++ l ∷ []) ≡ leaves_text refs ++ leaf_text l
leaves_text_last [] l = refl
leaves_text_last (r ∷ refs) l = ap (λ xs. r.component ∷ r.leaf ∷ xs) (leaves_text_last refs l)

abbrev bound_front : List LeafRef → List ℕ
bound_front refs = 2 ∷ leaves_text refs

behind_fronted : (more : List LeafRef → List Conjunct) → ((refs : List LeafRef) → Fronted (bound_front refs) (more refs)) → (refs : List LeafRef) (n : ℕ) (l : LeafRef) (b : Bool)
    → Fronted (bound_front refs ++ leaf_text l) (if b then more (refs ++ l ∷ []) else [])
behind_fronted more fronts refs n l true c h = let f = fronts (refs ++ l ∷ []) c h in (f.0, f.1 ∙ ap (λ xs. 2 ∷ (xs ++ f.0)) (leaves_text_last refs l))
behind_fronted more fronts refs n l false c h = absurd h

behind_ascend : (more : List LeafRef → List Conjunct) → ((refs : List LeafRef) → Ascend (more refs)) → (refs : List LeafRef) (l : LeafRef) (b : Bool) → Ascend (if b then more (refs ++ l ∷ []) else [])
behind_ascend more a refs l true = a (refs ++ l ∷ [])
behind_ascend more a refs l false = tt

-- a longer bound has the component and a leaf after the leaves so far
behind_component : (more : List LeafRef → List Conjunct) (refs : List LeafRef) (n : ℕ) (l : LeafRef) (b : Bool) (c : Conjunct) → nat_eq l.component n ≡ b → Has (if b then more (refs ++ l ∷ []) else []) c → l.component ≡ n
behind_component more refs n l true c e h = eqb-true l.component n e
behind_component more refs n l false c e h = absurd h

text_behind : (a r : List ℕ) (n m : ℕ) (l : LeafRef) → l.component ≡ n → l.leaf ≡ m → (2 ∷ (a ++ leaf_text l)) ++ r ≡ (2 ∷ (a ++ n ∷ [])) ++ m ∷ r
text_behind a r n m l same at =
    ap (λ xs. 2 ∷ xs) (append_assoc a (leaf_text l) r ∙ ap (λ c. a ++ c ∷ l.leaf ∷ r) same ∙ ap (λ k. a ++ n ∷ k ∷ r) at ∙ sym (append_assoc a (n ∷ []) (m ∷ r)))

abbrev Behind : List LeafRef → ℕ → Conjunct → Type 0
Behind refs n c = (m : ℕ) × (r : List ℕ) × (text_of c ≡ (2 ∷ (leaves_text refs ++ n ∷ [])) ++ m ∷ r)

behind_text : (more : List LeafRef → List Conjunct) → ((refs : List LeafRef) → Fronted (bound_front refs) (more refs)) → (refs : List LeafRef) (n : ℕ) (l : LeafRef) (c : Conjunct) → Has (behind_leaf more refs n l) c → Behind refs n c
behind_text more fronts refs n l c h =
    let front = behind_fronted more fronts refs n l (nat_eq l.component n) c h in
    let same = behind_component more refs n l (nat_eq l.component n) c refl h in
    (l.leaf, front.0, front.1 ∙ text_behind (leaves_text refs) front.0 n l.leaf l same refl)

longer_text : (more : List LeafRef → List Conjunct) → ((refs : List LeafRef) → Fronted (bound_front refs) (more refs)) → (leaves refs : List LeafRef) (n : ℕ) (b : Bool) (c : Conjunct)
    → Has (if b then each_of (behind_leaf more refs n) leaves else []) c → Behind refs n c
longer_text more fronts leaves refs n true c h = let e = each_has (behind_leaf more refs n) leaves c h in behind_text more fronts refs n e.0 c e.2
longer_text more fronts leaves refs n false c h = absurd h

longer_ascend : (more : List LeafRef → List Conjunct) → ((refs : List LeafRef) → Fronted (bound_front refs) (more refs)) → ((refs : List LeafRef) → Ascend (more refs))
    → (design : DesignForm) (refs : List LeafRef) (n : ℕ) (b : Bool) → Ascend (if b then each_of (behind_leaf more refs n) (all_leaves design) else [])
longer_ascend more fronts a design refs n true = each_ascend leaf_text (bound_front refs) (behind_leaf more refs n) (all_leaves design) (leaves_ascend 0 design.components)
    (λ l. behind_fronted more fronts refs n l (nat_eq l.component n)) (λ l. behind_ascend more a refs l (nat_eq l.component n))
longer_ascend more fronts a design refs n false = tt

bounded_text : (refs : List LeafRef) (n : ℕ) → text_of (Bounded refs n) ≡ (2 ∷ (leaves_text refs ++ n ∷ [])) ++ []
bounded_text refs n = sym (append-nil (2 ∷ (leaves_text refs ++ n ∷ [])))

bound_of_fronted : (sides : SidesForm) (more : List LeafRef → List Conjunct) → ((refs : List LeafRef) → Fronted (bound_front refs) (more refs)) → (refs : List LeafRef) (n : ℕ)
    → Fronted (bound_front refs ++ n ∷ []) (bound_of sides (all_leaves sides.design) more refs n)
bound_of_fronted sides more fronts refs n c h = ⊎_elim
    (λ k. chosen_fronted sides (2 ∷ (leaves_text refs ++ n ∷ [])) (Bounded refs n) (bounded_text refs n) c k)
    (λ k. let t = longer_text more fronts (all_leaves sides.design) refs n (are_of n refs) c k in (t.0 ∷ t.1, t.2))
    (has_either (chosen sides (Bounded refs n)) (longer_of more (all_leaves sides.design) refs n) c h)

bound_of_ascend : (sides : SidesForm) (more : List LeafRef → List Conjunct) → ((refs : List LeafRef) → Fronted (bound_front refs) (more refs)) → ((refs : List LeafRef) → Ascend (more refs))
    → (refs : List LeafRef) (n : ℕ) → Ascend (bound_of sides (all_leaves sides.design) more refs n)
bound_of_ascend sides more fronts a refs n =
    ascend_append (chosen sides (Bounded refs n)) (longer_of more (all_leaves sides.design) refs n) (chosen_ascend sides (Bounded refs n)) (longer_ascend more fronts a sides.design refs n (are_of n refs))
    (λ c d h k.
    let only = chosen_only sides (Bounded refs n) c h in
    let t = longer_text more fronts (all_leaves sides.design) refs n (are_of n refs) d k in
    longer_behind (2 ∷ (leaves_text refs ++ n ∷ [])) c d t.0 t.1 (sym (ap text_of only.0) ∙ bounded_text refs n) t.2)

bounds_of_fronted : (sides : SidesForm) (numbers positions : List ℕ) (refs : List LeafRef) → Fronted (bound_front refs) (bounds_of sides (all_leaves sides.design) numbers positions refs)
bounds_of_fronted sides numbers [] refs c h = absurd h
bounds_of_fronted sides numbers (p ∷ ps) refs c h =
    each_shorter (bound_front refs) number_key (bound_of sides (all_leaves sides.design) (bounds_of sides (all_leaves sides.design) numbers ps) refs) numbers
    (λ n. bound_of_fronted sides (bounds_of sides (all_leaves sides.design) numbers ps) (λ more. bounds_of_fronted sides numbers ps more) refs n) c h

bounds_of_ascend : (sides : SidesForm) (numbers : List ℕ) → KeysAscend number_key numbers → (positions : List ℕ) (refs : List LeafRef) → Ascend (bounds_of sides (all_leaves sides.design) numbers positions refs)
bounds_of_ascend sides numbers a [] refs = tt
bounds_of_ascend sides numbers a (p ∷ ps) refs =
    each_ascend number_key (bound_front refs) (bound_of sides (all_leaves sides.design) (bounds_of sides (all_leaves sides.design) numbers ps) refs) numbers a
    (λ n. bound_of_fronted sides (bounds_of sides (all_leaves sides.design) numbers ps) (λ more. bounds_of_fronted sides numbers ps more) refs n)
    (λ n. bound_of_ascend sides (bounds_of sides (all_leaves sides.design) numbers ps) (λ more. bounds_of_fronted sides numbers ps more) (λ more. bounds_of_ascend sides numbers a ps more) refs n)

bounds_fronted : (sides : SidesForm) → Fronted (2 ∷ []) (bounds sides)
bounds_fronted sides = each_shorter (2 ∷ []) leaf_text (first_bound_of sides (all_leaves sides.design) (places_of sides) (positions_of sides.ty)) (all_leaves sides.design)
    (λ l. bounds_of_fronted sides (places_of sides) (positions_of sides.ty) (l ∷ []))

bounds_ascend : (sides : SidesForm) → Ascend (bounds sides)
bounds_ascend sides = each_ascend leaf_text (2 ∷ []) (first_bound_of sides (all_leaves sides.design) (places_of sides) (positions_of sides.ty)) (all_leaves sides.design) (leaves_ascend 0 sides.design.components)
    (λ l. bounds_of_fronted sides (places_of sides) (positions_of sides.ty) (l ∷ []))
    (λ l. bounds_of_ascend sides (places_of sides) (numbers_ascend 0 (max (rank_length sides.ty.ops) (length sides.design.components))) (positions_of sides.ty) (l ∷ []))

-- leaves that are true only if an element is at least a digit
at_leasts_of_fronted : (sides : SidesForm) (constants : List Constant) (l : LeafRef) → Fronted (3 ∷ leaf_text l) (at_leasts_of sides constants l)
at_leasts_of_fronted sides constants l = each_shorter (3 ∷ leaf_text l) constant_key (at_least_of sides l) constants
    (λ k. chosen_fronted sides (3 ∷ (leaf_text l ++ constant_key k)) (AtLeast l k.position k.digit) refl)

at_leasts_fronted : (sides : SidesForm) → Fronted (3 ∷ []) (at_leasts sides)
at_leasts_fronted sides = each_shorter (3 ∷ []) leaf_text (at_leasts_of sides (all_constants sides.ty)) (all_leaves sides.design) (λ l. at_leasts_of_fronted sides (all_constants sides.ty) l)

at_leasts_ascend : (sides : SidesForm) → Ascend (at_leasts sides)
at_leasts_ascend sides = each_ascend leaf_text (3 ∷ []) (at_leasts_of sides (all_constants sides.ty)) (all_leaves sides.design) (leaves_ascend 0 sides.design.components)
    (λ l. at_leasts_of_fronted sides (all_constants sides.ty) l)
    (λ l. each_ascend constant_key (3 ∷ leaf_text l) (at_least_of sides l) (all_constants sides.ty) (constants_ascend sides.ty.ops 0 (rank_length sides.ty.ops))
    (λ k. chosen_fronted sides (3 ∷ (leaf_text l ++ constant_key k)) (AtLeast l k.position k.digit) refl)
    (λ k. chosen_ascend sides (AtLeast l k.position k.digit)))

-- matches
abbrev match_front : LeafRef → ℕ → LeafRef → List ℕ
match_front first position second = 4 ∷ (leaf_text first ++ position ∷ leaf_text second)

match_of_fronted : (sides : SidesForm) (first : LeafRef) (position : ℕ) (second : LeafRef) (k : Constant) → Fronted (match_front first position second ++ constant_key k) (match_of sides first position second k)
match_of_fronted sides first position second k = chosen_fronted sides (match_front first position second ++ constant_key k) (Matched first position second k.position k.digit) refl

matches_with_fronted : (sides : SidesForm) (constants : List Constant) (first : LeafRef) (position : ℕ) (second : LeafRef) → Fronted (match_front first position second) (matches_with sides constants first position second)
matches_with_fronted sides constants first position second = each_shorter (match_front first position second) constant_key (match_of sides first position second) constants
    (λ k. match_of_fronted sides first position second k)

matches_at_fronted : (sides : SidesForm) (constants : List Constant) (leaves : List LeafRef) (first : LeafRef) (position : ℕ) → Fronted (4 ∷ (leaf_text first ++ position ∷ [])) (matches_at sides constants leaves first position)
matches_at_fronted sides constants leaves first position = each_shorter (4 ∷ (leaf_text first ++ position ∷ [])) leaf_text (matches_with sides constants first position) leaves
    (λ s. matches_with_fronted sides constants first position s)

matches_of_fronted : (sides : SidesForm) (constants : List Constant) (leaves : List LeafRef) (positions : List ℕ) (first : LeafRef) → Fronted (4 ∷ leaf_text first) (matches_of sides constants leaves positions first)
matches_of_fronted sides constants leaves positions first = each_shorter (4 ∷ leaf_text first) number_key (matches_at sides constants leaves first) positions (λ p. matches_at_fronted sides constants leaves first p)

matches_fronted : (sides : SidesForm) → Fronted (4 ∷ []) (matches sides)
matches_fronted sides = each_shorter (4 ∷ []) leaf_text (matches_of sides (all_constants sides.ty) (all_leaves sides.design) (positions_of sides.ty)) (all_leaves sides.design)
    (λ l. matches_of_fronted sides (all_constants sides.ty) (all_leaves sides.design) (positions_of sides.ty) l)

matches_with_ascend : (sides : SidesForm) (first : LeafRef) (position : ℕ) (second : LeafRef) → Ascend (matches_with sides (all_constants sides.ty) first position second)
matches_with_ascend sides first position second = each_ascend constant_key (match_front first position second) (match_of sides first position second) (all_constants sides.ty) (constants_ascend sides.ty.ops 0 (rank_length sides.ty.ops))
    (λ k. match_of_fronted sides first position second k) (λ k. chosen_ascend sides (Matched first position second k.position k.digit))

matches_at_ascend : (sides : SidesForm) (first : LeafRef) (position : ℕ) → Ascend (matches_at sides (all_constants sides.ty) (all_leaves sides.design) first position)
matches_at_ascend sides first position = each_ascend leaf_text (4 ∷ (leaf_text first ++ position ∷ [])) (matches_with sides (all_constants sides.ty) first position) (all_leaves sides.design) (leaves_ascend 0 sides.design.components)
    (λ s. matches_with_fronted sides (all_constants sides.ty) first position s) (λ s. matches_with_ascend sides first position s)

matches_of_ascend : (sides : SidesForm) (first : LeafRef) → Ascend (matches_of sides (all_constants sides.ty) (all_leaves sides.design) (positions_of sides.ty) first)
matches_of_ascend sides first = each_ascend number_key (4 ∷ leaf_text first) (matches_at sides (all_constants sides.ty) (all_leaves sides.design) first) (positions_of sides.ty) (numbers_ascend 0 (rank_length sides.ty.ops))
    (λ p. matches_at_fronted sides (all_constants sides.ty) (all_leaves sides.design) first p) (λ p. matches_at_ascend sides first p)

matches_ascend : (sides : SidesForm) → Ascend (matches sides)
matches_ascend sides = each_ascend leaf_text (4 ∷ []) (matches_of sides (all_constants sides.ty) (all_leaves sides.design) (positions_of sides.ty)) (all_leaves sides.design) (leaves_ascend 0 sides.design.components)
    (λ l. matches_of_fronted sides (all_constants sides.ty) (all_leaves sides.design) (positions_of sides.ty) l) (λ l. matches_of_ascend sides l)

totals_fronted : (sides : SidesForm) → Fronted (5 ∷ []) (totals sides)
totals_fronted sides = each_shorter (5 ∷ []) number_key (total_of sides) (numbers_from 0 (length sides.design.components)) (λ n. chosen_fronted sides (5 ∷ n ∷ []) (Total n) refl)

totals_ascend : (sides : SidesForm) → Ascend (totals sides)
totals_ascend sides = each_ascend number_key (5 ∷ []) (total_of sides) (numbers_from 0 (length sides.design.components)) (numbers_ascend 0 (length sides.design.components)) (λ n. chosen_fronted sides (5 ∷ n ∷ []) (Total n) refl) (λ n. chosen_ascend sides (Total n))

-- all of them: each is of a form before that of the later ones
abbrev AreUnder : ℕ → List Conjunct → Type 0
AreUnder n cs = (c : Conjunct) → Has cs c → (form : ℕ) × (form < n) × HasFront (form ∷ []) c

under_form : (form n : ℕ) (cs : List Conjunct) → form < n → Fronted (form ∷ []) cs → AreUnder n cs
under_form form n cs less fronts c h = (form, less, fronts c h)

under_append : (n : ℕ) (xs ys : List Conjunct) → AreUnder n xs → AreUnder n ys → AreUnder n (xs ++ ys)
under_append n xs ys a b c h = ⊎_elim (λ k. a c k) (λ k. b c k) (has_either xs ys c h)

under_more : (n : ℕ) (xs : List Conjunct) → AreUnder n xs → AreUnder (suc n) xs
under_more n xs a c h = let u = a c h in let less = u.1 in (u.0, omega (arith, less), u.2)

next_form : (n : ℕ) (xs ys : List Conjunct) → AreUnder n xs → Fronted (n ∷ []) ys → Ascend xs → Ascend ys → Ascend (xs ++ ys)
next_form n xs ys under fronts a b = ascend_append xs ys a b (λ c d h k. let u = under c h in apart [] (u.0 ∷ []) (n ∷ []) c d (number_before u.0 n u.1) u.2 (fronts d k))

next_under : (n : ℕ) (xs ys : List Conjunct) → AreUnder n xs → Fronted (n ∷ []) ys → AreUnder (suc n) (xs ++ ys)
next_under n xs ys under fronts = under_append (suc n) xs ys (under_more n xs under) (under_form n (suc n) ys (omega arith) fronts)

pub listed_ascend : (sides : SidesForm) → Ascend (candidates_of sides)
listed_ascend sides =
    let q = queries sides in let e = equals sides in let b = bounds sides in let a = at_leasts sides in let m = matches sides in let t = totals sides in
    let u1 = under_form 0 1 q (omega arith) (queries_fronted sides) in
    let u2 = next_under 1 q e u1 (equals_fronted sides) in
    let u3 = next_under 2 (q ++ e) b u2 (bounds_fronted sides) in
    let u4 = next_under 3 (q ++ e ++ b) a u3 (at_leasts_fronted sides) in
    let u5 = next_under 4 (q ++ e ++ b ++ a) m u4 (matches_fronted sides) in
    let a2 = next_form 1 q e u1 (equals_fronted sides) (queries_ascend sides) (equals_ascend sides) in
    let a3 = next_form 2 (q ++ e) b u2 (bounds_fronted sides) a2 (bounds_ascend sides) in
    let a4 = next_form 3 (q ++ e ++ b) a u3 (at_leasts_fronted sides) a3 (at_leasts_ascend sides) in
    let a5 = next_form 4 (q ++ e ++ b ++ a) m u4 (matches_fronted sides) a4 (matches_ascend sides) in
    next_form 5 (q ++ e ++ b ++ a ++ m) t u5 (totals_fronted sides) a5 (totals_ascend sides)
