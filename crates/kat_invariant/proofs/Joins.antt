-- A leaf of a join is read as the leaf of the join.
use Rattle.std.proofs.Common.{◌≡◌, ℕ, zero, suc, ◌+◌, ◌-◌, ◌<◌, ◌≤◌, ℤ, pos, int_lt, max, Bool, true, false, not, ◌&&◌, ◌||◌, if◌then◌else◌, ◌⊎◌, inl, inr, ⊎_elim, List, [], ◌∷◌, ◌++◌, length, take, drop, map, refl, sym, ap, subst, ◌∙◌, arith}
use Rattle.std.specs.Prelude.{nat_lt}
use Rattle.std.specs.Int.{int_max}
use Rattle.std.proofs.lemmas.Int.{ints}
use Rattle.std.proofs.lemmas.List.{get_or-append-add, get_or_append_left, get_or-take, get_or-drop, map-append}
use Rattle.kat_num.specs.declared.values.Value.{Value}
use Rattle.kat_num.specs.declared.values.Value.TheVariants.{Bool as Truth, Num, Name as Word}
use Rattle.kat_expr.specs.Evaluation.{truth_of}
use Rattle.kat_expr.specs.Slots.{absent, argument}
use Rattle.kat_shape.specs.Forms.{CellForm, LeafKind, leaf_kind_of, leaf_kinds_of, lex, name, names, number, numbers, pair, truth, truths, width_of}
use Rattle.kat_shape.specs.LeafByLeaf.{is_before, joined_leaves, one_leaf, second_leaves}
use Rattle.kat_shape.specs.Leaves.{leaves_compared, leaves_joined}
use Rattle.kat_shape.proofs.Filling.{fits_back, fits_front, fits_long}
use Rattle.kat_form.specs.Facts.{Fact}
use Rattle.kat_symbols.specs.Connectives.{denied, fact_lt, or_of, truth_if}
use Rattle.kat_claims.specs.Effects.{Leaves, either_read, greater_read, join_read, pairs_read}
use Rattle.kat_symbols.specs.Readers.{Reader, Symbol, choose}
use Rattle.kat_symbols.specs.Readers.Symbol.{number as a_number, truth as a_truth}
use Rattle.kat_symbols.specs.Symbols.{number_in, symbol_if, symbols_lt, turned}
use Rattle.kat_invariant.proofs.Comparing.{MeanAll, Orders, OrdersAll, int_equals, int_less, less_has, nat_equals, nat_less, paired, slices_less, truth_equals, truth_less, values_lt}
use Rattle.kat_invariant.proofs.Having.{IsNumber, IsTruth, ReadsValue, and_has, lt_has, means_number, means_truth, not_has, number_as, number_means, or_has, truth_as, truth_means}
use Rattle.kat_invariant.proofs.Logic.{World, Meant, measure, HasNumber, HasTruth, Means, Reads, stays, reads_as, reads_choice, reads_choice_with, reads_two}
use Rattle.kat_invariant.proofs.Measures.{measure_if}
use Rattle.kat_linear.specs.Rows.{Form}

-- two numbers or names, or two truth values
abbrev pub SameKind : Value → Value → Type 0
SameKind u v = (IsTruth u × IsTruth v) ⊎ (IsNumber u × IsNumber v)

pub if_kind : (b : Bool) (u v w : Value) → SameKind u v → SameKind u w → SameKind u (if b then v else w)
if_kind true u v w h k = h
if_kind false u v w h k = k

truth_picks : (b t u : Bool) → ((not b || t) && (b || u)) ≡ (if b then t else u)
truth_picks true true u = refl
truth_picks true false u = refl
truth_picks false t u = refl

truth_if_value : (b : Bool) (u v : Value) → truth_of (if b then u else v) ≡ (if b then truth_of u else truth_of v)
truth_if_value true u v = refl
truth_if_value false u v = refl

is_truth_if : (b : Bool) (u v : Value) → IsTruth u → IsTruth v → IsTruth (if b then u else v)
is_truth_if true u v h k = h
is_truth_if false u v h k = k

is_number_if : (b : Bool) (u v : Value) → IsNumber u → IsNumber v → IsNumber (if b then u else v)
is_number_if true u v h k = h
is_number_if false u v h k = k

symbol_truth : (w : World) (x : Symbol) (v : Value) → IsNumber v → Means x v w → (f : Fact) → x ≡ a_truth f → ⊥
symbol_truth w (a_number a) v k h f e = absurd (cc)
symbol_truth w (a_truth g) (Num z) k h f e = absurd h.is
symbol_truth w (a_truth g) (Word z) k h f e = absurd h.is
symbol_truth w (a_truth g) (Truth z) k h f e = absurd k

-- what holds besides stays
pub symbol_if_reads : (m : Meant) (first r : Reader) (c : Fact) (x y : Symbol) (b : Bool) (u v : Value) (P : World → Type 0) → SameKind u v → Reads m first r (λ w. (HasTruth c b w × Means x u w × Means y v w) × P w)
    → Reads m first (symbol_if c x y r).1 (λ w. Means (symbol_if c x y r).0 (if b then u else v) w × P w)
symbol_if_reads m first r c (a_number f) (a_number g) b u v P same h = ⊎_elim
    (λ (k : IsTruth u × IsTruth v). reads_as m first (choose c f g r).1 _ _ (reads_choice_with m first r c f g b (measure u) (measure v) (λ w. ⊥) (reads_as m first r _ _ h (λ w p. absurd (number_is_no_truth w f u k.0 p.0.1)))) (λ w p. absurd p.1))
    (λ (k : IsNumber u × IsNumber v). reads_as m first (choose c f g r).1 _ _
    (reads_choice_with m first r c f g b (measure u) (measure v) P (reads_as m first r _ _ h (λ w p. (record { test = p.0.0; left = means_number w (a_number f) u k.0 p.0.1; right = means_number w (a_number g) v k.1 p.0.2 }, p.1))))
    (λ w p. (number_means w (choose c f g r).0 (if b then u else v) (is_number_if b u v k.0 k.1) (number_as w (choose c f g r).0 _ _ (sym (measure_if b u v)) p.0), p.1)))
    same
  where
    number_is_no_truth : (w : World) (a : Form) (q : Value) → IsTruth q → Means (a_number a) q w → ⊥
    number_is_no_truth w a (Truth t) k p = p.is
    number_is_no_truth w a (Num t) k p = absurd k
    number_is_no_truth w a (Word t) k p = absurd k
symbol_if_reads m first r c (a_truth f) (a_truth g) b u v P same h = reads_as m first r _ _ h (λ w p. (
  ⊎_elim
      (λ (k : IsTruth u × IsTruth v). truth_means w (truth_if c f g) (if b then u else v) (is_truth_if b u v k.0 k.1)
      (truth_as w (truth_if c f g) _ _ (truth_picks b (truth_of u) (truth_of v) ∙ sym (truth_if_value b u v))
      (and_has w (or_of (denied c) f) (or_of c g) _ _ (or_has w (denied c) f _ _ (not_has w c b p.0.0) (means_truth w (a_truth f) u k.0 p.0.1)) (or_has w c g _ _ p.0.0 (means_truth w (a_truth g) v k.1 p.0.2)))))
      (λ (k : IsNumber u × IsNumber v). absurd (symbol_truth w (a_truth f) u k.0 p.0.1 f refl))
      same,
  p.1,
))
symbol_if_reads m first r c (a_number f) (a_truth g) b u v P same h = reads_as m first r _ _ h (λ w p. ⊎_elim
    (λ (k : IsTruth u × IsTruth v). absurd (number_truth w f u k.0 p.0.1))
    (λ (k : IsNumber u × IsNumber v). absurd (symbol_truth w (a_truth g) v k.1 p.0.2 g refl))
    same)
  where
    number_truth : (w : World) (a : Form) (q : Value) → IsTruth q → Means (a_number a) q w → ⊥
    number_truth w a (Truth t) k p = p.is
    number_truth w a (Num t) k p = absurd k
    number_truth w a (Word t) k p = absurd k
symbol_if_reads m first r c (a_truth f) (a_number g) b u v P same h = reads_as m first r _ _ h (λ w p. ⊎_elim
    (λ (k : IsTruth u × IsTruth v). absurd (number_truth w g v k.1 p.0.2))
    (λ (k : IsNumber u × IsNumber v). absurd (symbol_truth w (a_truth f) u k.0 p.0.1 f refl))
    same)
  where
    number_truth : (w : World) (a : Form) (q : Value) → IsTruth q → Means (a_number a) q w → ⊥
    number_truth w a (Truth t) k p = p.is
    number_truth w a (Num t) k p = absurd k
    number_truth w a (Word t) k p = absurd k

-- leaves of one kind
abbrev pub kind_code : LeafKind → ℕ
kind_code number = 0
kind_code name = 1
kind_code truth = 2

pub kinds_alike : (u v : Value) → leaf_kind_of u ≡ leaf_kind_of v → SameKind u v
kinds_alike (Num x) (Num y) e = inr (tt, tt)
kinds_alike (Word x) (Word y) e = inr (tt, tt)
kinds_alike (Truth x) (Truth y) e = inl (tt, tt)
kinds_alike (Num x) (Word y) e = inr (tt, tt)
kinds_alike (Word x) (Num y) e = inr (tt, tt)
kinds_alike (Num x) (Truth y) e = let is : ◌≡◌ {A = ℕ} 0 2 = ap kind_code e in absurd (cc)
kinds_alike (Word x) (Truth y) e = let is : ◌≡◌ {A = ℕ} 1 2 = ap kind_code e in absurd (cc)
kinds_alike (Truth x) (Num y) e = let is : ◌≡◌ {A = ℕ} 2 0 = ap kind_code e in absurd (cc)
kinds_alike (Truth x) (Word y) e = let is : ◌≡◌ {A = ℕ} 2 1 = ap kind_code e in absurd (cc)

leaf_orders : (u v : Value) → leaf_kind_of u ≡ leaf_kind_of v → Orders leaves_compared u v
leaf_orders (Num x) (Num y) e = record { less = int_less x y; equal = int_equals x y }
leaf_orders (Word x) (Word y) e = record { less = nat_less x y; equal = nat_equals x y }
leaf_orders (Truth x) (Truth y) e = record { less = truth_less x y; equal = truth_equals x y }
leaf_orders (Num x) (Word y) e = let is : ◌≡◌ {A = ℕ} 0 1 = ap kind_code e in absurd (cc)
leaf_orders (Word x) (Num y) e = let is : ◌≡◌ {A = ℕ} 1 0 = ap kind_code e in absurd (cc)
leaf_orders (Num x) (Truth y) e = let is : ◌≡◌ {A = ℕ} 0 2 = ap kind_code e in absurd (cc)
leaf_orders (Word x) (Truth y) e = let is : ◌≡◌ {A = ℕ} 1 2 = ap kind_code e in absurd (cc)
leaf_orders (Truth x) (Num y) e = let is : ◌≡◌ {A = ℕ} 2 0 = ap kind_code e in absurd (cc)
leaf_orders (Truth x) (Word y) e = let is : ◌≡◌ {A = ℕ} 2 1 = ap kind_code e in absurd (cc)

all_orders : (us vs : List Value) → map leaf_kind_of us ≡ map leaf_kind_of vs → OrdersAll leaves_compared us vs
all_orders [] [] e = tt
all_orders (u ∷ us) (v ∷ vs) e = (leaf_orders u v (let first : leaf_kind_of u ≡ leaf_kind_of v = cc in first), all_orders us vs (let rest : map leaf_kind_of us ≡ map leaf_kind_of vs = cc in rest))
all_orders [] (v ∷ vs) e = absurd (cc)
all_orders (u ∷ us) [] e = absurd (cc)

pub before_is : (us vs : List Value) → map leaf_kind_of us ≡ map leaf_kind_of vs → is_before us vs ≡ values_lt (paired us vs)
before_is us vs e = slices_less leaves_compared us vs (all_orders us vs e)

-- the kinds of a join's leaves
one_kind : (k : LeafKind) (os ns : List Value) → map leaf_kind_of os ≡ k ∷ [] → map leaf_kind_of ns ≡ k ∷ [] → map leaf_kind_of (one_leaf os ns) ≡ k ∷ []
one_kind k [] ns h j = absurd (cc)
one_kind k (o ∷ os) [] h j = absurd (cc)
one_kind k (o ∷ os) (n ∷ ns) h j =
    let mine : leaf_kind_of o ≡ k = cc in let its : leaf_kind_of n ≡ k = cc in
    ap (λ x. x ∷ []) (joined_kind o n (mine ∙ sym its) ∙ mine)
  where
    joined_kind : (u v : Value) → leaf_kind_of u ≡ leaf_kind_of v → leaf_kind_of (leaves_joined u v) ≡ leaf_kind_of u
    joined_kind (Num x) (Num y) e = refl
    joined_kind (Word x) (Word y) e = refl
    joined_kind (Truth x) (Truth y) e = refl
    joined_kind (Num x) (Word y) e = refl
    joined_kind (Word x) (Num y) e = refl
    joined_kind (Num x) (Truth y) e = refl
    joined_kind (Word x) (Truth y) e = refl
    joined_kind (Truth x) (Num y) e = refl
    joined_kind (Truth x) (Word y) e = refl

if_kinds : (b : Bool) (xs ys : List Value) (ks : List LeafKind) → map leaf_kind_of xs ≡ ks → map leaf_kind_of ys ≡ ks → map leaf_kind_of (if b then xs else ys) ≡ ks
if_kinds true xs ys ks h k = h
if_kinds false xs ys ks h k = k

pub joined_kinds : (f : CellForm) (os ns : List Value) → map leaf_kind_of os ≡ leaf_kinds_of f → map leaf_kind_of ns ≡ leaf_kinds_of f → map leaf_kind_of (joined_leaves f os ns) ≡ leaf_kinds_of f
joined_kinds numbers os ns h k = one_kind number os ns h k
joined_kinds names os ns h k = one_kind name os ns h k
joined_kinds truths os ns h k = one_kind truth os ns h k
joined_kinds (lex a b) os ns h k =
    let first = joined_kinds a (take (width_of a) os) (take (width_of a) ns) (fits_front a b os h).kinds (fits_front a b ns k).kinds in
    let both = joined_kinds b (drop (width_of a) os) (drop (width_of a) ns) (fits_back a b os h).kinds (fits_back a b ns k).kinds in
    let second = if_kinds (is_before (take (width_of a) os) (take (width_of a) ns)) (drop (width_of a) ns) _ (leaf_kinds_of b) (fits_back a b ns k).kinds
    (if_kinds (is_before (take (width_of a) ns) (take (width_of a) os)) (drop (width_of a) os) _ (leaf_kinds_of b) (fits_back a b os h).kinds both) in
    map-append leaf_kind_of (joined_leaves a (take (width_of a) os) (take (width_of a) ns)) _ ∙ rw (first, second) refl
joined_kinds (pair a b) os ns h k =
    let first = joined_kinds a (take (width_of a) os) (take (width_of a) ns) (fits_front a b os h).kinds (fits_front a b ns k).kinds in
    let both = joined_kinds b (drop (width_of a) os) (drop (width_of a) ns) (fits_back a b os h).kinds (fits_back a b ns k).kinds in
    map-append leaf_kind_of (joined_leaves a (take (width_of a) os) (take (width_of a) ns)) _ ∙ rw (first, both) refl

kind_there : (us vs : List Value) (j : ℕ) → map leaf_kind_of us ≡ map leaf_kind_of vs → leaf_kind_of (argument us j) ≡ leaf_kind_of (argument vs j)
kind_there [] [] j e = refl
kind_there (u ∷ us) (v ∷ vs) zero e = cc
kind_there (u ∷ us) (v ∷ vs) (suc j) e = kind_there us vs j (let rest : map leaf_kind_of us ≡ map leaf_kind_of vs = cc in rest)
kind_there [] (v ∷ vs) j e = absurd (cc)
kind_there (u ∷ us) [] j e = absurd (cc)

pub leaves_alike : (f : CellForm) (us vs : List Value) (j : ℕ) → map leaf_kind_of us ≡ leaf_kinds_of f → map leaf_kind_of vs ≡ leaf_kinds_of f → SameKind (argument us j) (argument vs j)
leaves_alike f us vs j h k = kinds_alike (argument us j) (argument vs j) (kind_there us vs j (h ∙ sym k))

-- one leaf
int_greater : (x y : ℤ) → (if int_lt x y then y else x) ≡ int_max x y
int_greater x y = grind (arith, ints)

nat_greater : (x y : ℕ) → (if int_lt (pos x) (pos y) then pos y else pos x) ≡ pos (max x y)
nat_greater x y = grind (arith, ints)

greater_reads : (m : Meant) (old effect : Leaves) (l : ℕ) (u v : Value) → leaf_kind_of u ≡ leaf_kind_of v → IsNumber u → ReadsValue m (old l) u → ReadsValue m (effect l) v → ReadsValue m (greater_read old effect l) (leaves_joined u v)
greater_reads m old effect l u v same k p q r =
    let a = old l r in let b = effect l a.1 in
    reads_as m r (choose (fact_lt (number_in a.0) (number_in b.0)) (number_in b.0) (number_in a.0) b.1).1 _ _
    (reads_choice m r b.1 (fact_lt (number_in a.0) (number_in b.0)) (number_in b.0) (number_in a.0) (int_lt (measure u) (measure v)) (measure v) (measure u)
    (reads_two m r a.1 b.1 (HasNumber (number_in a.0) (measure u)) (HasNumber (number_in b.0) (measure v)) _ (reads_as m r a.1 _ _ (p r) (λ w h. means_number w a.0 u k h)) (reads_as m a.1 b.1 _ _ (q a.1) (λ w h. means_number w b.0 v (other u v same k) h))
    (λ w h j. record { test = lt_has w _ _ _ _ h j; left = j; right = h })))
    (λ w h. result w u v same k _ h)
  where
    other : (x y : Value) → leaf_kind_of x ≡ leaf_kind_of y → IsNumber x → IsNumber y
    other x (Num y) e h = tt
    other x (Word y) e h = tt
    other (Num x) (Truth y) e h = let is : ◌≡◌ {A = ℕ} 0 2 = ap kind_code e in absurd (cc)
    other (Word x) (Truth y) e h = let is : ◌≡◌ {A = ℕ} 1 2 = ap kind_code e in absurd (cc)
    other (Truth x) (Truth y) e h = absurd h

    result : (w : World) (x y : Value) → leaf_kind_of x ≡ leaf_kind_of y → IsNumber x → (form : Form) → HasNumber form (if int_lt (measure x) (measure y) then measure y else measure x) w → Means (a_number form) (leaves_joined x y) w
    result w (Num x) (Num y) e h form is = record { is = number_as w form _ _ (int_greater x y) is }
    result w (Word x) (Word y) e h form is = record { is = number_as w form _ _ (nat_greater x y) is }
    result w (Num x) (Word y) e h form is = let no' : ◌≡◌ {A = ℕ} 0 1 = ap kind_code e in absurd (cc)
    result w (Word x) (Num y) e h form is = let no' : ◌≡◌ {A = ℕ} 1 0 = ap kind_code e in absurd (cc)
    result w (Num x) (Truth y) e h form is = let no' : ◌≡◌ {A = ℕ} 0 2 = ap kind_code e in absurd (cc)
    result w (Word x) (Truth y) e h form is = let no' : ◌≡◌ {A = ℕ} 1 2 = ap kind_code e in absurd (cc)
    result w (Truth x) y e h form is = absurd h

either_reads : (m : Meant) (old effect : Leaves) (l : ℕ) (b c : Bool) → ReadsValue m (old l) (Truth b) → ReadsValue m (effect l) (Truth c) → ReadsValue m (either_read old effect l) (Truth (b || c))
either_reads m old effect l b c p q r =
    let x = old l r in let y = effect l x.1 in
    reads_two m r x.1 y.1 (Means x.0 (Truth b)) (Means y.0 (Truth c)) _ (p r) (q x.1) (λ w h j. record { is = or_has w _ _ _ _ (means_truth w x.0 (Truth b) tt h) (means_truth w y.0 (Truth c) tt j) })

-- one pair of leaves
pub record OneLeaf (k : LeafKind) (vs : List Value) : Type 0 where
  pub value : Value
  pub is : vs ≡ value ∷ []
  pub kind_is : leaf_kind_of value ≡ k

one_of : (k : LeafKind) (vs : List Value) → map leaf_kind_of vs ≡ k ∷ [] → OneLeaf k vs
one_of k [] h = absurd (cc)
one_of k (v ∷ []) h = record { value = v; is = refl; kind_is = (let same : leaf_kind_of v ≡ k = cc in same) }
one_of k (v ∷ u ∷ vs) h = absurd (cc)

-- leaves of a range are read as the values of a list
abbrev pub ReadsLeaves : Meant → Leaves → ℕ → ℕ → List Value → Type 0
ReadsLeaves m leaves from n vs = (i : ℕ) → i < n → ReadsValue m (leaves (from + i)) (argument vs i)

pub front_reads : (m : Meant) (leaves : Leaves) (from wa wb : ℕ) (vs : List Value) → ReadsLeaves m leaves from (wa + wb) vs → ReadsLeaves m leaves from wa (take wa vs)
front_reads m leaves from wa wb vs h i lt = subst (ReadsValue m (leaves (from + i))) (sym (get_or-take wa vs i absent lt)) (h i (omega (arith, lt)))

pub back_reads : (m : Meant) (leaves : Leaves) (from wa wb : ℕ) (vs : List Value) → ReadsLeaves m leaves from (wa + wb) vs → ReadsLeaves m leaves (from + wa) wb (drop wa vs)
back_reads m leaves from wa wb vs h i lt =
    let same : from + (wa + i) ≡ from + wa + i = omega arith in
    subst (λ n. ReadsValue m (leaves n) (argument (drop wa vs) i)) same (subst (ReadsValue m (leaves (from + (wa + i)))) (sym (get_or-drop wa vs i absent)) (h (wa + i) (omega (arith, lt))))

-- pairs of leaves
pairs_reads : (m : Meant) (old effect : Leaves) (from n : ℕ) (os ns : List Value) → length os ≡ n → length ns ≡ n → ReadsLeaves m old from n os → ReadsLeaves m effect from n ns
    → (r : Reader) → Reads m r (pairs_read old effect from n r).1 (MeanAll (pairs_read old effect from n r).0 (paired os ns))
pairs_reads m old effect from zero [] ns ho hn p q r = stays m r _ (λ w f. tt)
pairs_reads m old effect from zero (o ∷ os) ns ho hn p q r = absurd (omega (arith, ho))
pairs_reads m old effect from (suc n) [] ns ho hn p q r = absurd (omega (arith, ho))
pairs_reads m old effect from (suc n) (o ∷ os) [] ho hn p q r = absurd (omega (arith, hn))
pairs_reads m old effect from (suc n) (o ∷ os) (v ∷ ns) ho hn p q r =
    let a = old from r in let b = effect from a.1 in let rest = pairs_read old effect (suc from) n b.1 in
    let here : from + 0 ≡ from = omega arith in
    let po : ReadsValue m (old from) o = subst (λ k. ReadsValue m (old k) o) here (p 0 (omega arith)) in
    let pn : ReadsValue m (effect from) v = subst (λ k. ReadsValue m (effect k) v) here (q 0 (omega arith)) in
    reads_two m r b.1 rest.1 (λ w. Means a.0 o w × Means b.0 v w) (MeanAll rest.0 (paired os ns)) _
    (reads_two m r a.1 b.1 (Means a.0 o) (Means b.0 v) _ (po r) (pn a.1) (λ w h j. (h, j)))
    (pairs_reads m old effect (suc from) n os ns (omega (arith, ho)) (omega (arith, hn))
    (λ i lt. let same : from + suc i ≡ suc from + i = omega arith in subst (λ k. ReadsValue m (old k) (argument os i)) same (p (suc i) (omega (arith, lt))))
    (λ i lt. let same : from + suc i ≡ suc from + i = omega arith in subst (λ k. ReadsValue m (effect k) (argument ns i)) same (q (suc i) (omega (arith, lt)))) b.1)
    (λ w h j. (h.0, h.1, j))

turned_mean : (w : World) (ps : List (Symbol × Symbol)) (os ns : List Value) → MeanAll ps (paired os ns) w → MeanAll (turned ps) (paired ns os) w
turned_mean w [] [] [] h = tt
turned_mean w [] [] (n ∷ ns) h = tt
turned_mean w [] (o ∷ os) [] h = tt
turned_mean w [] (o ∷ os) (n ∷ ns) h = absurd h
turned_mean w (p ∷ ps) [] ns h = absurd h
turned_mean w (p ∷ ps) (o ∷ os) [] h = absurd h
turned_mean w (p ∷ ps) (o ∷ os) (n ∷ ns) h = (h.1, h.0, turned_mean w ps os ns h.2)

if_argument : (b : Bool) (xs ys : List Value) (j : ℕ) → argument (if b then xs else ys) j ≡ (if b then argument xs j else argument ys j)
if_argument true xs ys j = refl
if_argument false xs ys j = refl

-- a leaf of the second part of a lexicographic pair
second_reads : (m : Meant) (old effect : Leaves) (a b : CellForm) (os ns os' ns' both : List Value) (from l j : ℕ) → map leaf_kind_of os ≡ leaf_kinds_of a → map leaf_kind_of ns ≡ leaf_kinds_of a
    → map leaf_kind_of os' ≡ leaf_kinds_of b → map leaf_kind_of ns' ≡ leaf_kinds_of b → map leaf_kind_of both ≡ leaf_kinds_of b
    → ReadsLeaves m old from (width_of a) os → ReadsLeaves m effect from (width_of a) ns → ReadsValue m (old l) (argument os' j) → ReadsValue m (effect l) (argument ns' j)
    → ReadsValue m (join_read old effect b (from + width_of a) l) (argument both j)
    → (r : Reader) →
    (let first = pairs_read old effect from (width_of a) r in
    let gift = effect l first.1 in
    let before = old l gift.1 in
    let joined = join_read old effect b (from + width_of a) l before.1 in
    let rest = symbol_if (symbols_lt (turned first.0)) before.0 joined.0 joined.1 in
    let all = symbol_if (symbols_lt first.0) gift.0 rest.0 rest.1 in
    Reads m r all.1 (Means all.0 (argument (second_leaves os ns os' ns' both) j)))
second_reads m old effect a b os ns os' ns' both from l j ko kn ko' kn' kb po pn po' pn' pb r =
    let first = pairs_read old effect from (width_of a) r in
    let gift = effect l first.1 in
    let before = old l gift.1 in
    let joined = join_read old effect b (from + width_of a) l before.1 in
    let rest = symbol_if (symbols_lt (turned first.0)) before.0 joined.0 joined.1 in
    let all = symbol_if (symbols_lt first.0) gift.0 rest.0 rest.1 in
    let less = values_lt (paired os ns) in
    let more = values_lt (paired ns os) in
    let uo = argument os' j in let un = argument ns' j in let ub = argument both j in
    let Firsts = MeanAll first.0 (paired os ns) in
    let long : (vs : List Value) → map leaf_kind_of vs ≡ leaf_kinds_of a → length vs ≡ width_of a = λ vs h. fits_long a vs (record { kinds = h }) in
    let base : Reads m r joined.1 (λ w. (Firsts w × Means gift.0 un w) × (Means before.0 uo w × Means joined.0 ub w)) =
    reads_two m r gift.1 joined.1 (λ w. Firsts w × Means gift.0 un w) (λ w. Means before.0 uo w × Means joined.0 ub w) _
    (reads_two m r first.1 gift.1 Firsts (Means gift.0 un) _ (pairs_reads m old effect from (width_of a) os ns (long os ko) (long ns kn) po pn r) (pn' first.1) (λ w h k. (h, k)))
    (reads_two m gift.1 before.1 joined.1 (Means before.0 uo) (Means joined.0 ub) _ (po' gift.1) (pb before.1) (λ w h k. (h, k)))
    (λ w h k. (h, k)) in
    let inner : Reads m r rest.1 (λ w. Means rest.0 (if more then uo else ub) w × (Firsts w × Means gift.0 un w)) =
    symbol_if_reads m r joined.1 (symbols_lt (turned first.0)) before.0 joined.0 more uo ub (λ w. Firsts w × Means gift.0 un w) (leaves_alike b os' both j ko' kb)
    (reads_as m r joined.1 _ _ base (λ w h. ((less_has w (turned first.0) (paired ns os) (turned_mean w first.0 os ns h.0.0), h.1.0, h.1.1), h.0))) in
    let outer : Reads m r all.1 (λ w. Means all.0 (if less then un else (if more then uo else ub)) w × Unit {0}) =
    symbol_if_reads m r rest.1 (symbols_lt first.0) gift.0 rest.0 less un (if more then uo else ub) (λ w. Unit {0}) (if_kind more un uo ub (leaves_alike b ns' os' j kn' ko') (leaves_alike b ns' both j kn' kb))
    (reads_as m r rest.1 _ _ inner (λ w h. ((less_has w first.0 (paired os ns) h.1.0, h.1.1, h.0), tt))) in
    let told : argument (second_leaves os ns os' ns' both) j ≡ (if less then un else (if more then uo else ub)) =
    if_argument (is_before os ns) ns' (if is_before ns os then os' else both) j
    ∙ ap (λ v. if is_before os ns then un else v) (if_argument (is_before ns os) os' both j)
    ∙ rw (before_is os ns (ko ∙ sym kn), before_is ns os (kn ∙ sym ko)) refl in
    reads_as m r all.1 _ _ outer (λ w h. subst (λ v. Means all.0 v w) (sym told) h.0)

leaf_alone : (os ns : List Value) (u v : Value) (j : ℕ) → os ≡ u ∷ [] → ns ≡ v ∷ [] → j ≡ 0 → leaves_joined u v ≡ argument (one_leaf os ns) j
leaf_alone os ns u v j e f z = sym (ap (λ xs. argument (one_leaf xs ns) j) e ∙ ap (λ ys. argument (one_leaf (u ∷ []) ys) j) f ∙ ap (argument (leaves_joined u v ∷ [])) z)

below_test : (l n : ℕ) → nat_lt l n ≡ true → l < n
below_test l n e = grind arith

above_test : (l n : ℕ) → nat_lt l n ≡ false → n ≤ l
above_test l n e = grind arith

pub join_reads : (m : Meant) (old effect : Leaves) (f : CellForm) (os ns : List Value) (from l j : ℕ) → map leaf_kind_of os ≡ leaf_kinds_of f → map leaf_kind_of ns ≡ leaf_kinds_of f
    → ReadsLeaves m old from (width_of f) os → ReadsLeaves m effect from (width_of f) ns → l ≡ from + j → j < width_of f
    → ReadsValue m (join_read old effect f from l) (argument (joined_leaves f os ns) j)
join_reads m old effect numbers os ns from l j ko kn po pn at within =
    let o = one_of number os ko in let n = one_of number ns kn in
    let zero_j : j ≡ 0 = omega (arith, within) in
    let here : from + 0 ≡ l = omega (arith, at, zero_j) in
    let ro : ReadsValue m (old l) o.value = subst (λ k. ReadsValue m (old k) o.value) here (subst (λ vs. ReadsValue m (old (from + 0)) (argument vs 0)) o.is (po 0 (omega arith))) in
    let rn : ReadsValue m (effect l) n.value = subst (λ k. ReadsValue m (effect k) n.value) here (subst (λ vs. ReadsValue m (effect (from + 0)) (argument vs 0)) n.is (pn 0 (omega arith))) in
    let told : leaves_joined o.value n.value ≡ argument (one_leaf os ns) j = leaf_alone os ns o.value n.value j o.is n.is zero_j in
    subst (ReadsValue m (greater_read old effect l)) told (greater_reads m old effect l o.value n.value (o.kind_is ∙ sym n.kind_is) (is_numbered o.value o.kind_is) ro rn)
  where
    is_numbered : (v : Value) → leaf_kind_of v ≡ number → IsNumber v
    is_numbered (Num z) e = tt
    is_numbered (Word z) e = tt
    is_numbered (Truth z) e = let is : ◌≡◌ {A = ℕ} 2 0 = ap kind_code e in absurd (cc)
join_reads m old effect names os ns from l j ko kn po pn at within =
    let o = one_of name os ko in let n = one_of name ns kn in
    let zero_j : j ≡ 0 = omega (arith, within) in
    let here : from + 0 ≡ l = omega (arith, at, zero_j) in
    let ro : ReadsValue m (old l) o.value = subst (λ k. ReadsValue m (old k) o.value) here (subst (λ vs. ReadsValue m (old (from + 0)) (argument vs 0)) o.is (po 0 (omega arith))) in
    let rn : ReadsValue m (effect l) n.value = subst (λ k. ReadsValue m (effect k) n.value) here (subst (λ vs. ReadsValue m (effect (from + 0)) (argument vs 0)) n.is (pn 0 (omega arith))) in
    let told : leaves_joined o.value n.value ≡ argument (one_leaf os ns) j = leaf_alone os ns o.value n.value j o.is n.is zero_j in
    subst (ReadsValue m (greater_read old effect l)) told (greater_reads m old effect l o.value n.value (o.kind_is ∙ sym n.kind_is) (is_named o.value o.kind_is) ro rn)
  where
    is_named : (v : Value) → leaf_kind_of v ≡ name → IsNumber v
    is_named (Num z) e = tt
    is_named (Word z) e = tt
    is_named (Truth z) e = let is : ◌≡◌ {A = ℕ} 2 1 = ap kind_code e in absurd (cc)
join_reads m old effect truths os ns from l j ko kn po pn at within =
    let o = one_of truth os ko in let n = one_of truth ns kn in
    let zero_j : j ≡ 0 = omega (arith, within) in
    let here : from + 0 ≡ l = omega (arith, at, zero_j) in
    let ro : ReadsValue m (old l) o.value = subst (λ k. ReadsValue m (old k) o.value) here (subst (λ vs. ReadsValue m (old (from + 0)) (argument vs 0)) o.is (po 0 (omega arith))) in
    let rn : ReadsValue m (effect l) n.value = subst (λ k. ReadsValue m (effect k) n.value) here (subst (λ vs. ReadsValue m (effect (from + 0)) (argument vs 0)) n.is (pn 0 (omega arith))) in
    let told : leaves_joined o.value n.value ≡ argument (one_leaf os ns) j = leaf_alone os ns o.value n.value j o.is n.is zero_j in
    subst (ReadsValue m (either_read old effect l)) told (truths_read o.value n.value o.kind_is n.kind_is ro rn)
  where
    truths_read : (u v : Value) → leaf_kind_of u ≡ truth → leaf_kind_of v ≡ truth → ReadsValue m (old l) u → ReadsValue m (effect l) v → ReadsValue m (either_read old effect l) (leaves_joined u v)
    truths_read (Truth b) (Truth c) e h p q = either_reads m old effect l b c p q
    truths_read (Num b) v e h p q = let is : ◌≡◌ {A = ℕ} 0 2 = ap kind_code e in absurd (cc)
    truths_read (Word b) v e h p q = let is : ◌≡◌ {A = ℕ} 1 2 = ap kind_code e in absurd (cc)
    truths_read (Truth b) (Num c) e h p q = let is : ◌≡◌ {A = ℕ} 0 2 = ap kind_code h in absurd (cc)
    truths_read (Truth b) (Word c) e h p q = let is : ◌≡◌ {A = ℕ} 1 2 = ap kind_code h in absurd (cc)
join_reads m old effect (lex a b) os ns from l j ko kn po pn at within = by_test (nat_lt l (from + width_of a)) refl
    (λ k. join_reads m old effect a os1 ns1 from l j ko1 kn1 po1 pn1 at k)
    (λ j' e k. join_reads m old effect b os2 ns2 (from + width_of a) l j' ko2 kn2 po2 pn2 e k)
  where
    wa : ℕ
    wa = width_of a

    os1 : List Value
    os1 = take (width_of a) os

    ns1 : List Value
    ns1 = take (width_of a) ns

    os2 : List Value
    os2 = drop (width_of a) os

    ns2 : List Value
    ns2 = drop (width_of a) ns

    ko1 : map leaf_kind_of os1 ≡ leaf_kinds_of a
    ko1 = (fits_front a b os ko).kinds

    kn1 : map leaf_kind_of ns1 ≡ leaf_kinds_of a
    kn1 = (fits_front a b ns kn).kinds

    ko2 : map leaf_kind_of os2 ≡ leaf_kinds_of b
    ko2 = (fits_back a b os ko).kinds

    kn2 : map leaf_kind_of ns2 ≡ leaf_kinds_of b
    kn2 = (fits_back a b ns kn).kinds

    po1 : ReadsLeaves m old from (width_of a) os1
    po1 = front_reads m old from (width_of a) (width_of b) os po

    pn1 : ReadsLeaves m effect from (width_of a) ns1
    pn1 = front_reads m effect from (width_of a) (width_of b) ns pn

    po2 : ReadsLeaves m old (from + width_of a) (width_of b) os2
    po2 = back_reads m old from (width_of a) (width_of b) os po

    pn2 : ReadsLeaves m effect (from + width_of a) (width_of b) ns2
    pn2 = back_reads m effect from (width_of a) (width_of b) ns pn

    first : List Value
    first = joined_leaves a os1 ns1

    both : List Value
    both = joined_leaves b os2 ns2

    first_long : length first ≡ width_of a
    first_long = fits_long a first (record { kinds = joined_kinds a os1 ns1 ko1 kn1 })

    by_test : (t : Bool) → nat_lt l (from + width_of a) ≡ t → (j < width_of a → ReadsValue m (join_read old effect a from l) (argument first j))
        → ((j' : ℕ) → l ≡ from + width_of a + j' → j' < width_of b → ReadsValue m (join_read old effect b (from + width_of a) l) (argument both j'))
        → ReadsValue m (join_read old effect (lex a b) from l) (argument (first ++ second_leaves os1 ns1 os2 ns2 both) j)
    by_test true e left right =
        let inside : j < width_of a = let low = below_test l (from + width_of a) e in omega (arith, low, at) in
        λ r. rw (e, get_or_append_left first (second_leaves os1 ns1 os2 ns2 both) absent j (omega (arith, inside, first_long))) (left inside r)
    by_test false e left right =
        let high = above_test l (from + width_of a) e in
        let j' = j - width_of a in
        let split : j ≡ width_of a + j' = omega (arith, high, at) in
        let placed : l ≡ from + width_of a + j' = omega (arith, high, at) in
        let small : j' < width_of b = omega (arith, within, split) in
        let old_there : ReadsValue m (old l) (argument os2 j') = subst (λ k. ReadsValue m (old k) (argument os2 j')) (sym placed) (po2 j' small) in
        let new_there : ReadsValue m (effect l) (argument ns2 j') = subst (λ k. ReadsValue m (effect k) (argument ns2 j')) (sym placed) (pn2 j' small) in
        let told : argument (first ++ second_leaves os1 ns1 os2 ns2 both) j ≡ argument (second_leaves os1 ns1 os2 ns2 both) j' =
        ap (λ k. argument (first ++ second_leaves os1 ns1 os2 ns2 both) k) (split ∙ ap (λ k. k + j') (sym first_long)) ∙ get_or-append-add first (second_leaves os1 ns1 os2 ns2 both) j' absent in
        λ r. rw (e, told) (second_reads m old effect a b os1 ns1 os2 ns2 both from l j' ko1 kn1 ko2 kn2 (joined_kinds b os2 ns2 ko2 kn2) po1 pn1 old_there new_there (right j' placed small) r)
join_reads m old effect (pair a b) os ns from l j ko kn po pn at within = by_test (nat_lt l (from + width_of a)) refl
    (λ k. join_reads m old effect a (take (width_of a) os) (take (width_of a) ns) from l j (fits_front a b os ko).kinds (fits_front a b ns kn).kinds (front_reads m old from (width_of a) (width_of b) os po) (front_reads m effect from (width_of a) (width_of b) ns pn) at k)
    (λ j' e k. join_reads m old effect b (drop (width_of a) os) (drop (width_of a) ns) (from + width_of a) l j' (fits_back a b os ko).kinds (fits_back a b ns kn).kinds (back_reads m old from (width_of a) (width_of b) os po) (back_reads m effect from (width_of a) (width_of b) ns pn) e k)
  where
    first : List Value
    first = joined_leaves a (take (width_of a) os) (take (width_of a) ns)

    both : List Value
    both = joined_leaves b (drop (width_of a) os) (drop (width_of a) ns)

    first_long : length first ≡ width_of a
    first_long = fits_long a first (record { kinds = joined_kinds a (take (width_of a) os) (take (width_of a) ns) (fits_front a b os ko).kinds (fits_front a b ns kn).kinds })

    by_test : (t : Bool) → nat_lt l (from + width_of a) ≡ t → (j < width_of a → ReadsValue m (join_read old effect a from l) (argument first j))
        → ((j' : ℕ) → l ≡ from + width_of a + j' → j' < width_of b → ReadsValue m (join_read old effect b (from + width_of a) l) (argument both j'))
        → ReadsValue m (join_read old effect (pair a b) from l) (argument (first ++ both) j)
    by_test true e left right =
        let inside : j < width_of a = let low = below_test l (from + width_of a) e in omega (arith, low, at) in
        λ r. rw (e, get_or_append_left first both absent j (omega (arith, inside, first_long))) (left inside r)
    by_test false e left right =
        let high = above_test l (from + width_of a) e in
        let j' = j - width_of a in
        let split : j ≡ width_of a + j' = omega (arith, high, at) in
        let placed : l ≡ from + width_of a + j' = omega (arith, high, at) in
        let small : j' < width_of b = omega (arith, within, split) in
        let told : argument (first ++ both) j ≡ argument both j' =
        ap (λ k. argument (first ++ both) k) (split ∙ ap (λ k. k + j') (sym first_long)) ∙ get_or-append-add first both j' absent in
        λ r. rw (e, told) (right j' placed small r)
