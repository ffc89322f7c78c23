-- The order of conjuncts, by the numbers with which their texts begin.
use Rattle.std.proofs.Common.{◌≡◌, ℕ, zero, suc, ◌<◌, ◌≤◌, ◌⊎◌, inl, inr, ⊎_elim, Bool, true, false, ◌&&◌, ◌||◌, List, [], ◌∷◌, ◌++◌, refl, sym, ap, ap₂, subst, ◌∙◌, arith}
use Rattle.std.specs.Prelude.{nat_lt, nat_eq}
use Rattle.std.specs.List.{All, AllPairs}
use Rattle.std.proofs.lemmas.Bool.{false≢true, eqb-true, eq-eqb, ltb-true, lt-ltb, le-ltb, or_left}
use Rattle.std.proofs.lemmas.List.{append_assoc}
use Rattle.std.proofs.lemmas.List.Kept.{AllPairs-cons}
use Rattle.kat_relation.specs.declared.relations.Conjunct.{Conjunct}
use Rattle.kat_type.specs.Lists.{Has}
use Rattle.kat_type.proofs.Lists.{has_either}
use Rattle.kat_type.proofs.Ordered.{all_had}
use Rattle.kat_candidate.specs.Texts.{Precedes, is_less, text_of}

or_cases : (x y : Bool) → (x || y) ≡ true → (x ≡ true) ⊎ (y ≡ true)
or_cases true y h = inl refl
or_cases false y h = inr h

pub and_both : (x y : Bool) → (x && y) ≡ true → (x ≡ true) × (y ≡ true)
and_both true y h = (refl, h)
and_both false y h = absurd (false≢true h)

head_less : (m n : ℕ) (r : Bool) → (nat_lt m n || (nat_eq m n && r)) ≡ true → (m < n) ⊎ ((m ≡ n) × (r ≡ true))
head_less m n r h = ⊎_elim (λ less. inl (ltb-true m n less)) (λ both. let b = and_both (nat_eq m n) r both in inr (eqb-true m n b.0, b.1)) (or_cases (nat_lt m n) (nat_eq m n && r) h)

head_asym : (m n : ℕ) (r s : Bool) → (r ≡ true → s ≡ true → ⊥) → (m < n) ⊎ ((m ≡ n) × (r ≡ true)) → (n < m) ⊎ ((n ≡ m) × (s ≡ true)) → ⊥
head_asym m n r s not_both (inl a) (inl b) = omega (arith, a, b)
head_asym m n r s not_both (inl a) (inr b) = let e = b.0 in omega (arith, a, e)
head_asym m n r s not_both (inr a) (inl b) = let e = a.0 in omega (arith, b, e)
head_asym m n r s not_both (inr a) (inr b) = not_both a.1 b.1

-- no list is less than another that is less than it
pub less_asym : (a b : List ℕ) → is_less a b ≡ true → is_less b a ≡ true → ⊥
less_asym [] [] h k = absurd (false≢true h)
less_asym [] (n ∷ ns) h k = absurd (false≢true k)
less_asym (m ∷ ms) [] h k = absurd (false≢true h)
less_asym (m ∷ ms) (n ∷ ns) h k = head_asym m n (is_less ms ns) (is_less ns ms) (less_asym ms ns) (head_less m n (is_less ms ns) h) (head_less n m (is_less ns ms) k)

-- a common beginning doesn't matter
front_step : (n : ℕ) (r : Bool) → (nat_lt n n || (nat_eq n n && r)) ≡ r
front_step n r = ap₂ (λ x y. x || (y && r)) (le-ltb n n (omega arith)) (eq-eqb n n refl)

pub less_front : (p a b : List ℕ) → is_less (p ++ a) (p ++ b) ≡ is_less a b
less_front [] a b = refl
less_front (n ∷ p) a b = front_step n (is_less (p ++ a) (p ++ b)) ∙ less_front p a b

-- whatever begins with the one is less than whatever begins with the other
abbrev pub Before : List ℕ → List ℕ → Type 0
Before k l = (r s : List ℕ) → is_less (k ++ r) (l ++ s) ≡ true

pub number_before : (m n : ℕ) → m < n → Before (m ∷ []) (n ∷ [])
number_before m n h r s = or_left (nat_lt m n) (nat_eq m n && is_less r s) (lt-ltb m n h)

pub first_before : (a b c d : ℕ) → a < c → Before (a ∷ b ∷ []) (c ∷ d ∷ [])
first_before a b c d h r s = or_left (nat_lt a c) (nat_eq a c && is_less (b ∷ r) (d ∷ s)) (lt-ltb a c h)

pub second_before : (a b d : ℕ) → b < d → Before (a ∷ b ∷ []) (a ∷ d ∷ [])
second_before a b d h r s = front_step a (is_less (b ∷ r) (d ∷ s)) ∙ number_before b d h r s

-- the text begins with these numbers
abbrev pub HasFront : List ℕ → Conjunct → Type 0
HasFront p c = (rest : List ℕ) × (text_of c ≡ p ++ rest)

abbrev pub Fronted : List ℕ → List Conjunct → Type 0
Fronted p cs = (c : Conjunct) → Has cs c → HasFront p c

pub shorter : (p k : List ℕ) (cs : List Conjunct) → Fronted (p ++ k) cs → Fronted p cs
shorter p k cs h c has = let f = h c has in (k ++ f.0, f.1 ∙ append_assoc p k f.0)

pub apart : (p k l : List ℕ) (c d : Conjunct) → Before k l → HasFront (p ++ k) c → HasFront (p ++ l) d → Precedes c d
apart p k l c d before (r, is) (s, js) =
    ap₂ is_less (is ∙ append_assoc p k r) (js ∙ append_assoc p l s) ∙ less_front p (k ++ r) (l ++ s) ∙ before r s

-- a text is less than a longer one that begins with it
pub longer_behind : (q : List ℕ) (c d : Conjunct) (n : ℕ) (r : List ℕ) → text_of c ≡ q ++ [] → text_of d ≡ q ++ n ∷ r → Precedes c d
longer_behind q c d n r is js = ap₂ is_less is js ∙ less_front q [] (n ∷ r)

-- each comes before all later ones
abbrev pub Ascend : List Conjunct → Type 0
Ascend [] = Unit {0}
Ascend (c ∷ cs) = ((d : Conjunct) → Has cs d → Precedes c d) × Ascend cs

pub ascend_append : (xs ys : List Conjunct) → Ascend xs → Ascend ys → ((c d : Conjunct) → Has xs c → Has ys d → Precedes c d) → Ascend (xs ++ ys)
ascend_append [] ys a b below = b
ascend_append (x ∷ xs) ys a b below = (
  λ d has. ⊎_elim (λ k. a.0 d k) (λ k. below x d (inl refl) k) (has_either xs ys d has),
  ascend_append xs ys a.1 b (λ c d h k. below c d (inr h) k),
)

none_below : (j : ℕ) → j < 0 → ⊥
none_below j h = omega (arith, h)

pub ascend_pairs : (cs : List Conjunct) → Ascend cs → AllPairs Precedes cs
ascend_pairs [] h = λ i j d lt le. absurd (none_below j le)
ascend_pairs (c ∷ cs) h = AllPairs-cons Precedes c cs (all_had (Precedes c) cs h.0) (ascend_pairs cs h.1)
