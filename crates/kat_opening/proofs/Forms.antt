-- Two linear forms of different readers are the same if they have the same value, whatever values their variables have that
-- stand for the same.
use Rattle.std.proofs.Common.{◌≡◌, ◌≢◌, ℕ, suc, ◌<◌, ◌≤◌, ℤ, pos, int_le, ◌+ℤ◌, ◌*ℤ◌, neg_ℤ, Bool, true, false, nat_eq, nat_lt, eqb, if◌then◌else◌, Some, List, [], ◌∷◌, refl, sym, ap, ◌∙◌, arith}
use Rattle.std.specs.Ordering.{int_eq}
use Rattle.std.proofs.Math.IntN.{zero-*ℤ, +ℤ_idl, *ℤ_comm}
use Rattle.std.proofs.lemmas.Bool.{eqb-true}
use Rattle.std.proofs.lemmas.Bool.Decides.{Decides-eqb, Decides-int_eq}
use Rattle.std.proofs.lemmas.Int.{ints}
use Rattle.kat_linear.specs.Rows.{Form, Term, term_sum, scaled_value}
use Rattle.kat_linear.proofs.Integers.{add-mul, neg-mul, mul_one}
use Rattle.kat_form.specs.Readings.{constant_form, constant_of}
use Rattle.kat_symbols.specs.Sums.{numeral, variable, with_coefficient, add_term, add_terms, plus, opposite_terms, opposite_form, minus, raised}

-- what the variables of the first reader stand for among those of the second; the variables that are seen stand for different ones
pub record World : Type 0 where
  pub slots : ℕ
  pub flags : ℕ
  pub nums : ℕ → ℕ
  pub truths : ℕ → ℕ
  pub seen : ℕ → Bool
  pub within : (i : ℕ) → seen i ≡ true → i < slots
  pub apart : (i j : ℕ) → seen i ≡ true → seen j ≡ true → nums i ≡ nums j → i ≡ j

-- a later world says the same of all variables of an earlier one
pub record Agrees (w v : World) : Type 0 where
  pub slots : w.slots ≤ v.slots
  pub flags : w.flags ≤ v.flags
  pub nums : (i : ℕ) → i < w.slots → v.nums i ≡ w.nums i
  pub truths : (i : ℕ) → i < w.flags → v.truths i ≡ w.truths i

-- and sees what was seen
pub record Beyond (w v : World) : Type 0 where
  pub agrees : Agrees w v
  pub seen : (i : ℕ) → w.seen i ≡ true → v.seen i ≡ true

pub agrees_self : (w : World) → Agrees w w
agrees_self w = record { slots = omega arith; flags = omega arith; nums = λ i h. refl; truths = λ i h. refl }

pub agrees_then : (u w v : World) → Agrees u w → Agrees w v → Agrees u v
agrees_then u w v p q = record {
  slots = omega (arith, p.slots, q.slots);
  flags = omega (arith, p.flags, q.flags);
  nums = λ i h. q.nums i (omega (arith, h, p.slots)) ∙ p.nums i h;
  truths = λ i h. q.truths i (omega (arith, h, p.flags)) ∙ p.truths i h;
}

pub beyond_self : (w : World) → Beyond w w
beyond_self w = record { agrees = agrees_self w; seen = λ i h. h }

pub beyond_then : (u w v : World) → Beyond u w → Beyond w v → Beyond u v
beyond_then u w v p q = record { agrees = agrees_then u w v p.agrees q.agrees; seen = λ i h. q.seen i (p.seen i h) }

-- the variables ascend from one on, and no coefficient is 0
abbrev pub Climbs : ℕ → List Term → Type 0
Climbs low [] = Unit {0}
Climbs low (t ∷ ts) = (low ≤ t.0) × (t.1 ≢ pos 0) × Climbs (suc t.0) ts

-- all variables have a property
abbrev pub Each : (ℕ → Type 0) → List Term → Type 0
Each P [] = Unit {0}
Each P (t ∷ ts) = P t.0 × Each P ts

pub record SameForm (w : World) (f g : Form) : Type 0 where
  pub values : (den : ℕ) (u : ℕ → ℤ) → scaled_value den (λ i. u (w.nums i)) f ≡ scaled_value den u g
  pub below : Each (λ i. i < w.slots) f.terms
  pub constant : constant_form f ≡ constant_form g

-- the same as long as all variables of the first are seen: what is made of such forms is the same too
pub record AlikeForm (w : World) (f g : Form) : Type 0 where
  pub values : (den : ℕ) (u : ℕ → ℤ) → scaled_value den (λ i. u (w.nums i)) f ≡ scaled_value den u g
  pub left : Climbs 0 f.terms
  pub right : Climbs 0 g.terms
  pub seen : Each (λ i. w.seen i ≡ true) f.terms

each_as : (P Q : ℕ → Type 0) → ((i : ℕ) → P i → Q i) → (ts : List Term) → Each P ts → Each Q ts
each_as P Q h [] all = tt
each_as P Q h (t ∷ ts) all = (h t.0 all.0, each_as P Q h ts all.1)

climbs_lower : (low high : ℕ) (ts : List Term) → low ≤ high → Climbs high ts → Climbs low ts
climbs_lower low high [] h climbs = tt
climbs_lower low high (t ∷ ts) h climbs = (omega (arith, h, climbs.0), climbs.1, climbs.2)

climbs_each : (low : ℕ) (ts : List Term) → Climbs low ts → Each (λ i. low ≤ i) ts
climbs_each low [] climbs = tt
climbs_each low (t ∷ ts) climbs = (climbs.0, climbs_each low ts (climbs_lower low (suc t.0) ts (omega (arith, climbs.0)) climbs.2))

-- terms put together
with_climbs : (low v : ℕ) (c : ℤ) (ts : List Term) → low ≤ v → Climbs (suc v) ts → Climbs low (with_coefficient v c ts)
with_climbs low v c ts h climbs = by_test (int_eq c (pos 0)) refl
  where
    by_test : (b : Bool) → int_eq c (pos 0) ≡ b → Climbs low (with_coefficient v c ts)
    by_test true e = rw e (climbs_lower low (suc v) ts (omega (arith, h)) climbs)
    by_test false e = rw e (h, (λ none. let is : int_eq c (pos 0) ≡ true = (Decides-int_eq c (pos 0)).1 none in cc), climbs)

with_each : (P : ℕ → Type 0) (v : ℕ) (c : ℤ) (ts : List Term) → P v → Each P ts → Each P (with_coefficient v c ts)
with_each P v c ts h all = by_test (int_eq c (pos 0)) refl
  where
    by_test : (b : Bool) → int_eq c (pos 0) ≡ b → Each P (with_coefficient v c ts)
    by_test true e = rw e all
    by_test false e = rw e (h, all)

add_climbs : (low v : ℕ) (c : ℤ) (ts : List Term) → low ≤ v → Climbs low ts → Climbs low (add_term v c ts)
add_climbs low v c [] h climbs = with_climbs low v c [] h tt
add_climbs low v c (t ∷ ts) h climbs = by_less (nat_lt v t.0) refl (λ below. add_climbs (suc t.0) v c ts below climbs.2)
  where
    by_same : (b : Bool) → nat_lt v t.0 ≡ false → nat_eq v t.0 ≡ b → (suc t.0 ≤ v → Climbs (suc t.0) (add_term v c ts)) → Climbs low (add_term v c (t ∷ ts))
    by_same true l e rest = let same : v ≡ t.0 = eqb-true v t.0 e in rw (l, e) (with_climbs low v (c +ℤ t.1) ts h (climbs_lower (suc v) (suc t.0) ts (omega (arith, same)) climbs.2))
    by_same false l e rest = rw (l, e) (climbs.0, climbs.1, rest (grind (arith, l, e)))

    by_less : (b : Bool) → nat_lt v t.0 ≡ b → (suc t.0 ≤ v → Climbs (suc t.0) (add_term v c ts)) → Climbs low (add_term v c (t ∷ ts))
    by_less true l rest = rw l (with_climbs low v c (t ∷ ts) h (grind (arith, l), climbs.1, climbs.2))
    by_less false l rest = by_same (nat_eq v t.0) l refl rest

add_each : (P : ℕ → Type 0) (v : ℕ) (c : ℤ) (ts : List Term) → P v → Each P ts → Each P (add_term v c ts)
add_each P v c [] h all = with_each P v c [] h tt
add_each P v c (t ∷ ts) h all = by_less (nat_lt v t.0) refl (add_each P v c ts h all.1)
  where
    by_same : (b : Bool) → nat_lt v t.0 ≡ false → nat_eq v t.0 ≡ b → Each P (add_term v c ts) → Each P (add_term v c (t ∷ ts))
    by_same true l e rest = rw (l, e) (with_each P v (c +ℤ t.1) ts h all.1)
    by_same false l e rest = rw (l, e) (all.0, rest)

    by_less : (b : Bool) → nat_lt v t.0 ≡ b → Each P (add_term v c ts) → Each P (add_term v c (t ∷ ts))
    by_less true l rest = rw l (with_each P v c (t ∷ ts) h all)
    by_less false l rest = by_same (nat_eq v t.0) l refl rest

adds_climb : (ts us : List Term) → Climbs 0 us → Climbs 0 (add_terms ts us)
adds_climb [] us climbs = climbs
adds_climb (t ∷ ts) us climbs = adds_climb ts (add_term t.0 t.1 us) (add_climbs 0 t.0 t.1 us (omega arith) climbs)

adds_each : (P : ℕ → Type 0) (ts us : List Term) → Each P ts → Each P us → Each P (add_terms ts us)
adds_each P [] us first second = second
adds_each P (t ∷ ts) us first second = adds_each P ts (add_term t.0 t.1 us) first.1 (add_each P t.0 t.1 us first.0 second)

neg_some : (c : ℤ) → c ≢ pos 0 → neg_ℤ c ≢ pos 0
neg_some c some none = some (omega (arith, ints, none))

opposite_climbs : (low : ℕ) (ts : List Term) → Climbs low ts → Climbs low (opposite_terms ts)
opposite_climbs low [] climbs = tt
opposite_climbs low (t ∷ ts) climbs = (climbs.0, neg_some t.1 climbs.1, opposite_climbs (suc t.0) ts climbs.2)

opposite_each : (P : ℕ → Type 0) (ts : List Term) → Each P ts → Each P (opposite_terms ts)
opposite_each P [] all = tt
opposite_each P (t ∷ ts) all = (all.0, opposite_each P ts all.1)

-- their values
with_value : (w : ℕ → ℤ) (v : ℕ) (c : ℤ) (ts : List Term) → term_sum w (with_coefficient v c ts) ≡ c *ℤ w v +ℤ term_sum w ts
with_value w v c ts = by_test (int_eq c (pos 0)) refl
  where
    by_test : (b : Bool) → int_eq c (pos 0) ≡ b → term_sum w (with_coefficient v c ts) ≡ c *ℤ w v +ℤ term_sum w ts
    by_test true e =
        let none : c ≡ pos 0 = (Decides-int_eq c (pos 0)).0 e in
        rw (e, none, zero-*ℤ (w v)) (sym (+ℤ_idl (term_sum w ts)))
    by_test false e = rw e refl

add_value : (w : ℕ → ℤ) (v : ℕ) (c : ℤ) (ts : List Term) → term_sum w (add_term v c ts) ≡ c *ℤ w v +ℤ term_sum w ts
add_value w v c [] = with_value w v c []
add_value w v c (t ∷ ts) = by_less (nat_lt v t.0) refl (add_value w v c ts)
  where
    by_same : (b : Bool) → nat_lt v t.0 ≡ false → nat_eq v t.0 ≡ b → term_sum w (add_term v c ts) ≡ c *ℤ w v +ℤ term_sum w ts → term_sum w (add_term v c (t ∷ ts)) ≡ c *ℤ w v +ℤ term_sum w (t ∷ ts)
    by_same true l e h =
        let same : v ≡ t.0 = (Decides-eqb v t.0).0 e in
        let moved : w v ≡ w t.0 = ap w same in
        rw (l, e, with_value w v (c +ℤ t.1) ts, add-mul c t.1 (w v), moved) (omega (arith, ints))
    by_same false l e h = rw (l, e, h) (omega (arith, ints))

    by_less : (b : Bool) → nat_lt v t.0 ≡ b → term_sum w (add_term v c ts) ≡ c *ℤ w v +ℤ term_sum w ts → term_sum w (add_term v c (t ∷ ts)) ≡ c *ℤ w v +ℤ term_sum w (t ∷ ts)
    by_less true l h = rw l (with_value w v c (t ∷ ts))
    by_less false l h = by_same (nat_eq v t.0) l refl h

adds_value : (w : ℕ → ℤ) (ts us : List Term) → term_sum w (add_terms ts us) ≡ term_sum w ts +ℤ term_sum w us
adds_value w [] us = sym (+ℤ_idl (term_sum w us))
adds_value w (t ∷ ts) us = rw (adds_value w ts (add_term t.0 t.1 us), add_value w t.0 t.1 us) (omega (arith, ints))

opposite_sum : (w : ℕ → ℤ) (ts : List Term) → term_sum w (opposite_terms ts) ≡ neg_ℤ (term_sum w ts)
opposite_sum w [] = refl
opposite_sum w (t ∷ ts) = rw (opposite_sum w ts, neg-mul t.1 (w t.0)) (omega (arith, ints))

plus_value : (den : ℕ) (w : ℕ → ℤ) (a b : Form) → scaled_value den w (plus a b) ≡ scaled_value den w a +ℤ scaled_value den w b
plus_value den w a b = rw (adds_value w a.terms b.terms, add-mul a.constant b.constant (pos den)) (omega (arith, ints))

opposite_value : (den : ℕ) (w : ℕ → ℤ) (a : Form) → scaled_value den w (opposite_form a) ≡ neg_ℤ (scaled_value den w a)
opposite_value den w a = rw (opposite_sum w a.terms, neg-mul a.constant (pos den)) (omega (arith, ints))

raised_value : (den : ℕ) (w : ℕ → ℤ) (a : Form) → scaled_value den w (raised a) ≡ scaled_value den w a +ℤ pos 1 *ℤ pos den
raised_value den w a = rw (add-mul a.constant (pos 1) (pos den)) (omega (arith, ints))

-- forms that are alike
pub numeral_alike : (w : World) (z : ℤ) → AlikeForm w (numeral z) (numeral z)
numeral_alike w z = record { values = λ den u. refl; left = tt; right = tt; seen = tt }

pub variable_alike : (w : World) (i j : ℕ) → w.nums i ≡ j → w.seen i ≡ true → AlikeForm w (variable i) (variable j)
variable_alike w i j is seen = record {
  values = λ den u. ap (λ k. (pos 1 *ℤ u k +ℤ pos 0) +ℤ pos 0 *ℤ pos den) is;
  left = (omega arith, (λ none. absurd (cc)), tt);
  right = (omega arith, (λ none. absurd (cc)), tt);
  seen = (seen, tt);
}

pub plus_alike : (w : World) (a b c d : Form) → AlikeForm w a b → AlikeForm w c d → AlikeForm w (plus a c) (plus b d)
plus_alike w a b c d p q = record {
  values = λ den u. plus_value den (λ i. u (w.nums i)) a c ∙ rw (p.values den u, q.values den u) (sym (plus_value den u b d));
  left = adds_climb a.terms c.terms q.left;
  right = adds_climb b.terms d.terms q.right;
  seen = adds_each (λ i. w.seen i ≡ true) a.terms c.terms p.seen q.seen;
}

opposite_alike : (w : World) (a b : Form) → AlikeForm w a b → AlikeForm w (opposite_form a) (opposite_form b)
opposite_alike w a b p = record {
  values = λ den u. opposite_value den (λ i. u (w.nums i)) a ∙ ap neg_ℤ (p.values den u) ∙ sym (opposite_value den u b);
  left = opposite_climbs 0 a.terms p.left;
  right = opposite_climbs 0 b.terms p.right;
  seen = opposite_each (λ i. w.seen i ≡ true) a.terms p.seen;
}

pub minus_alike : (w : World) (a b c d : Form) → AlikeForm w a b → AlikeForm w c d → AlikeForm w (minus a c) (minus b d)
minus_alike w a b c d p q = plus_alike w a b (opposite_form c) (opposite_form d) p (opposite_alike w c d q)

pub raised_alike : (w : World) (a b : Form) → AlikeForm w a b → AlikeForm w (raised a) (raised b)
raised_alike w a b p = record {
  values = λ den u. raised_value den (λ i. u (w.nums i)) a ∙ rw (p.values den u) (sym (raised_value den u b));
  left = p.left;
  right = p.right;
  seen = p.seen;
}

-- if one has no variables, the other has none
abbrev spike : ℕ → ℕ → ℤ
spike k i = if eqb i k then pos 1 else pos 0

spike_there : (k : ℕ) → spike k k ≡ pos 1
spike_there k = let same : eqb k k ≡ true = (Decides-eqb k k).1 refl in rw same refl

spike_else : (k i : ℕ) → i ≢ k → spike k i ≡ pos 0
spike_else k i apart = by_test (eqb i k) refl
  where
    by_test : (b : Bool) → eqb i k ≡ b → spike k i ≡ pos 0
    by_test true e = absurd (apart (eqb-true i k e))
    by_test false e = rw e refl

nothing_sum : (u : ℕ → ℤ) (ts : List Term) → Each (λ i. u i ≡ pos 0) ts → term_sum u ts ≡ pos 0
nothing_sum u [] all = refl
nothing_sum u (t ∷ ts) all = rw (all.0, nothing_sum u ts all.1, *ℤ_comm t.1 (pos 0), zero-*ℤ t.1) refl

first_sum : (u : ℕ → ℤ) (t : Term) (ts : List Term) → u t.0 ≡ pos 1 → Each (λ i. u i ≡ pos 0) ts → term_sum u (t ∷ ts) ≡ t.1
first_sum u t ts one others = rw (one, nothing_sum u ts others, mul_one t.1) (omega (arith, ints))

each_nothing : (ts : List Term) → Each (λ i. pos 0 ≡ pos 0) ts
each_nothing [] = tt
each_nothing (t ∷ ts) = (refl, each_nothing ts)

nowhere_sum : (ts : List Term) → term_sum (λ i. pos 0) ts ≡ pos 0
nowhere_sum ts = nothing_sum (λ i. pos 0) ts (each_nothing ts)

-- a sum that is the same everywhere has no first term
steady : (t : Term) (a b sum low : ℤ) → t.1 ≢ pos 0 → sum ≡ t.1 → low ≡ pos 0 → a ≡ sum +ℤ b → a ≡ low +ℤ b → ⊥
steady t a b sum low some is none first second = some (omega (arith, ints, is, none, first, second))

no_variables_right : (w : World) (k : ℤ) (t : Term) (ts : List Term) (z : ℤ) → AlikeForm w (record { terms = []; constant = k }) (record { terms = t ∷ ts; constant = z }) → ⊥
no_variables_right w k t ts z h =
    let here : pos 0 +ℤ k *ℤ pos 1 ≡ term_sum (spike t.0) (t ∷ ts) +ℤ z *ℤ pos 1 = h.values 1 (spike t.0) in
    let low : pos 0 +ℤ k *ℤ pos 1 ≡ term_sum (λ i. pos 0) (t ∷ ts) +ℤ z *ℤ pos 1 = h.values 1 (λ i. pos 0) in
    let others : Each (λ i. spike t.0 i ≡ pos 0) ts = each_as (λ i. suc t.0 ≤ i) (λ i. spike t.0 i ≡ pos 0) (λ i above. spike_else t.0 i (λ e. omega (arith, above, e))) ts (climbs_each (suc t.0) ts h.right.2) in
    steady t (pos 0 +ℤ k *ℤ pos 1) (z *ℤ pos 1) (term_sum (spike t.0) (t ∷ ts)) (term_sum (λ i. pos 0) (t ∷ ts)) h.right.1 (first_sum (spike t.0) t ts (spike_there t.0) others) (nowhere_sum (t ∷ ts)) here low

each_both : (P Q : ℕ → Type 0) (ts : List Term) → Each P ts → Each Q ts → Each (λ i. P i × Q i) ts
each_both P Q [] p q = tt
each_both P Q (t ∷ ts) p q = ((p.0, q.0), each_both P Q ts p.1 q.1)

no_variables_left : (w : World) (k : ℤ) (t : Term) (ts : List Term) (z : ℤ) → AlikeForm w (record { terms = t ∷ ts; constant = z }) (record { terms = []; constant = k }) → ⊥
no_variables_left w k t ts z h =
    let at = w.nums t.0 in
    let here : term_sum (λ i. spike at (w.nums i)) (t ∷ ts) +ℤ z *ℤ pos 1 ≡ pos 0 +ℤ k *ℤ pos 1 = h.values 1 (spike at) in
    let low : term_sum (λ i. pos 0) (t ∷ ts) +ℤ z *ℤ pos 1 ≡ pos 0 +ℤ k *ℤ pos 1 = h.values 1 (λ i. pos 0) in
    let others : Each (λ i. spike at (w.nums i) ≡ pos 0) ts =
    each_as (λ i. (suc t.0 ≤ i) × (w.seen i ≡ true)) (λ i. spike at (w.nums i) ≡ pos 0)
    (λ i both. spike_else at (w.nums i) (λ e. let same : i ≡ t.0 = w.apart i t.0 both.1 h.seen.0 e in omega (arith, both.0, same)))
    ts (each_both (λ i. suc t.0 ≤ i) (λ i. w.seen i ≡ true) ts (climbs_each (suc t.0) ts h.left.2) h.seen.1) in
    steady t (pos 0 +ℤ k *ℤ pos 1) (z *ℤ pos 1) (term_sum (λ i. spike at (w.nums i)) (t ∷ ts)) (term_sum (λ i. pos 0) (t ∷ ts)) h.left.1 (first_sum (λ i. spike at (w.nums i)) t ts (spike_there at) others) (nowhere_sum (t ∷ ts)) (sym here) (sym low)

constants : (w : World) (a b : List Term) (k z : ℤ) → AlikeForm w (record { terms = a; constant = k }) (record { terms = b; constant = z }) → constant_of a k ≡ constant_of b z
constants w [] [] k z h =
    let is : pos 0 +ℤ k *ℤ pos 1 ≡ pos 0 +ℤ z *ℤ pos 1 = h.values 1 (λ i. pos 0) in
    let same : k ≡ z = sym (mul_one k) ∙ sym (+ℤ_idl (k *ℤ pos 1)) ∙ is ∙ +ℤ_idl (z *ℤ pos 1) ∙ mul_one z in
    ap (λ x. Some (int_le x (pos 0))) same
constants w [] (t ∷ ts) k z h = absurd (no_variables_right w k t ts z h)
constants w (t ∷ ts) [] k z h = absurd (no_variables_left w z t ts k h)
constants w (t ∷ ts) (u ∷ us) k z h = refl

pub alike_same : (w : World) (a b : Form) → AlikeForm w a b → SameForm w a b
alike_same w a b h = record {
  values = h.values;
  below = each_as (λ i. w.seen i ≡ true) (λ i. i < w.slots) w.within a.terms h.seen;
  constant = constants w a.terms b.terms a.constant b.constant h;
}
