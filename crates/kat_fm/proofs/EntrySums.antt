-- The sum of coefficient times number, over the entries alone and over all places.
use Rattle.std.proofs.Common.{◌≡◌, ℕ, suc, ◌+◌, ◌<◌, ◌≤◌, ℤ, pos, ◌+ℤ◌, Bool, true, false, if◌then◌else◌, unsigned_abs, List, [], ◌∷◌, length, drop, get_or, sym, ap, ◌∙◌, refl, ◌⊎◌, inl, inr, ⊎_elim, arith}
use Rattle.std.specs.Prelude.{nat_le, nat_lt}
use Rattle.std.proofs.Math.IntN.{zero-*ℤ}
use Rattle.std.proofs.lemmas.Int.{ints}
use Rattle.std.proofs.lemmas.Bool.{cases_lt}
use Rattle.std.proofs.lemmas.List.{drop_more, drop_all, get_or_default}
use Rattle.kat_linear.specs.Rows.{Term}
use Rattle.kat_fm.specs.Limits.{Checked, and_then, within, checked_product, checked_sum, checked_dot}
use Rattle.kat_fm.specs.Limits.Checked.{fits, passes}
use Rattle.kat_fm.specs.Comparisons.{is_zero}
use Rattle.kat_fm.specs.Entries.{AreEntries, numbers_at, entries_from}
use Rattle.kat_fm.proofs.Merges.{within_zero}
use Rattle.kat_fm.proofs.Spreads.{back}

-- the sum of products over the entries alone
abbrev pub entries_dot : ℕ → ℤ → List Term → List ℤ → Checked ℤ
entries_dot limit sum [] ns = fits sum
entries_dot limit sum (e ∷ es) ns =
    if nat_lt e.0 (length ns) then and_then (and_then (checked_product limit e.1 (get_or ns e.0 (pos 0))) (λ x. checked_sum limit sum x)) (λ s. entries_dot limit s es ns) else fits sum

-- the sum over all places goes past those of 0
dot_nothing : (limit : ℕ) (s : ℤ) (place : ℕ) (cs ns : List ℤ) → length ns ≤ place → entries_dot limit s (entries_from place cs) ns ≡ fits s
dot_nothing limit s place [] ns h = refl
dot_nothing limit s place (c ∷ cs) ns h = at_test (dot_nothing limit s (suc place) cs ns (omega arith)) (is_zero c)
  where
    at_test : entries_dot limit s (entries_from (suc place) cs) ns ≡ fits s → (b : Bool) → entries_dot limit s (if b then entries_from (suc place) cs else (place, c) ∷ entries_from (suc place) cs) ns ≡ fits s
    at_test rest true = rest
    at_test rest false =
        let past : nat_lt place (length ns) ≡ false = grind arith in
        ap (λ b. if b then and_then (and_then (checked_product limit c (get_or ns place (pos 0))) (λ x. checked_sum limit s x)) (λ t. entries_dot limit t (entries_from (suc place) cs) ns) else fits s) past

sum_zero : (limit : ℕ) (s : ℤ) → unsigned_abs s ≤ limit → checked_sum limit s (pos 0) ≡ fits s
sum_zero limit s h =
    let whole : s +ℤ pos 0 ≡ s = omega (arith, ints) in
    let low : nat_le (unsigned_abs s) limit ≡ true = grind arith in
    ap (λ z. within limit s (pos 0) z) whole ∙ ap (λ b. if b then fits s else passes s (pos 0)) low

-- what follows a sum has one that is small
sum_small : (limit : ℕ) (s x : ℤ) (f g : ℤ → Checked ℤ) → ((t : ℤ) → unsigned_abs t ≤ limit → f t ≡ g t) → and_then (checked_sum limit s x) f ≡ and_then (checked_sum limit s x) g
sum_small limit s x f g h = at_test (nat_le (unsigned_abs (s +ℤ x)) limit) refl
  where
    at_test : (b : Bool) → nat_le (unsigned_abs (s +ℤ x)) limit ≡ b → and_then (if b then fits (s +ℤ x) else passes s x) f ≡ and_then (if b then fits (s +ℤ x) else passes s x) g
    at_test true e = h (s +ℤ x) (grind arith)
    at_test false e = refl

sums_small : (limit : ℕ) (s : ℤ) (c : Checked ℤ) (f g : ℤ → Checked ℤ) → ((t : ℤ) → unsigned_abs t ≤ limit → f t ≡ g t)
    → and_then (and_then c (λ x. checked_sum limit s x)) f ≡ and_then c (λ x. and_then (checked_sum limit s x) g)
sums_small limit s (fits x) f g h = sum_small limit s x f g h
sums_small limit s (passes left right) f g h = refl

dot_from : (limit : ℕ) (s : ℤ) (place : ℕ) (cs ns : List ℤ) → unsigned_abs s ≤ limit → entries_dot limit s (entries_from place cs) ns ≡ checked_dot limit s cs (drop place ns)
dot_from limit s place [] ns h = refl
dot_from limit s place (c ∷ cs) ns h = ⊎_elim
    (λ (past : length ns ≤ place). dot_nothing limit s place (c ∷ cs) ns past ∙ sym (ap (checked_dot limit s (c ∷ cs)) (drop_all place ns past)))
    (λ (below : place < length ns).
    let n = get_or ns place (pos 0) in
    let behind : drop (place + 1) ns ≡ drop (suc place) ns = (let e : place + 1 ≡ suc place = omega arith in ap (λ k. drop k ns) e) in
    let here : drop place ns ≡ n ∷ drop (suc place) ns = drop_more ns place (pos 0) below ∙ ap (λ xs. n ∷ xs) behind in
    at_test (is_zero c) refl n (λ t small. dot_from limit t (suc place) cs ns small) refl below ∙ sym (ap (checked_dot limit s (c ∷ cs)) here))
    (cases_le (length ns) place)
  where
    cases_le : (a b : ℕ) → (a ≤ b) ⊎ (b < a)
    cases_le a b = ⊎_elim (λ (l : b < a). inr l) (λ (l : a ≤ b). inl l) (cases_lt b a)

    at_test : (b : Bool) → is_zero c ≡ b → (n : ℤ) → ((t : ℤ) → unsigned_abs t ≤ limit → entries_dot limit t (entries_from (suc place) cs) ns ≡ checked_dot limit t cs (drop (suc place) ns)) → n ≡ get_or ns place (pos 0) → place < length ns
        → entries_dot limit s (if b then entries_from (suc place) cs else (place, c) ∷ entries_from (suc place) cs) ns ≡ and_then (checked_product limit c n) (λ x. and_then (checked_sum limit s x) (λ t. checked_dot limit t cs (drop (suc place) ns)))
    at_test true e n rest is below =
        let zero_c : c ≡ pos 0 = grind (arith, ints) in
        let none : checked_product limit c n ≡ fits (pos 0) = ap (λ z. checked_product limit z n) zero_c ∙ ap (within limit (pos 0) n) (zero-*ℤ n) ∙ within_zero limit (pos 0) n in
        rest s h ∙ sym (ap (λ p. and_then p (λ x. and_then (checked_sum limit s x) (λ t. checked_dot limit t cs (drop (suc place) ns)))) none ∙ ap (λ p. and_then p (λ t. checked_dot limit t cs (drop (suc place) ns))) (sum_zero limit s h))
    at_test false e n rest is below =
        let inside : nat_lt place (length ns) ≡ true = grind arith in
        ap (λ b. if b then and_then (and_then (checked_product limit c (get_or ns place (pos 0))) (λ x. checked_sum limit s x)) (λ t. entries_dot limit t (entries_from (suc place) cs) ns) else fits s) inside
        ∙ ap (λ m. and_then (and_then (checked_product limit c m) (λ x. checked_sum limit s x)) (λ t. entries_dot limit t (entries_from (suc place) cs) ns)) (sym is)
        ∙ sums_small limit s (checked_product limit c n) (λ t. entries_dot limit t (entries_from (suc place) cs) ns) (λ t. checked_dot limit t cs (drop (suc place) ns)) rest

pub dot_is : (limit : ℕ) (count : ℕ) (es : List Term) (ns : List ℤ) → AreEntries count es → entries_dot limit (pos 0) es ns ≡ checked_dot limit (pos 0) (numbers_at count es) ns
dot_is limit count es ns h =
    ap (λ xs. entries_dot limit (pos 0) xs ns) (sym (back count es h)) ∙ dot_from limit (pos 0) 0 (numbers_at count es) ns (omega arith)

entry_step : (limit : ℕ) (t : ℤ) (es : List Term) (ns : List ℤ) (i : ℕ) (e : Term) (n : ℤ) → i < length es → e ≡ get_or es i e → e.0 < length ns → n ≡ get_or ns e.0 n
    → entries_dot limit t (drop i es) ns ≡ and_then (and_then (checked_product limit e.1 n) (λ x. checked_sum limit t x)) (λ s. entries_dot limit s (drop (i + 1) es) ns)
entry_step limit t es ns i e n h is below k =
    let inside : nat_lt e.0 (length ns) ≡ true = grind arith in
    ap (λ xs. entries_dot limit t xs ns) (drop_more es i e h ∙ ap (λ x. x ∷ drop (i + 1) es) (sym is))
    ∙ ap (λ b. if b then and_then (and_then (checked_product limit e.1 (get_or ns e.0 (pos 0))) (λ x. checked_sum limit t x)) (λ s. entries_dot limit s (drop (i + 1) es) ns) else fits t) inside
    ∙ ap (λ m. and_then (and_then (checked_product limit e.1 m) (λ x. checked_sum limit t x)) (λ s. entries_dot limit s (drop (i + 1) es) ns)) (get_or_default ns e.0 (pos 0) n below ∙ sym k)

-- one entry more, and one past the numbers
pub dot_more : (limit : ℕ) (t : ℤ) (es : List Term) (ns : List ℤ) (i : ℕ) (e : Term) (n s : ℤ) (whole : Checked ℤ) → i < length es → e ≡ get_or es i e → e.0 < length ns → n ≡ get_or ns e.0 n
    → fits s ≡ and_then (checked_product limit e.1 n) (λ x. checked_sum limit t x) → entries_dot limit t (drop i es) ns ≡ whole → entries_dot limit s (drop (i + 1) es) ns ≡ whole
dot_more limit t es ns i e n s whole h is below k p before =
    ap (λ y. and_then y (λ z. entries_dot limit z (drop (i + 1) es) ns)) p ∙ sym (entry_step limit t es ns i e n h is below k) ∙ before

pub dot_stops : (limit : ℕ) (t : ℤ) (es : List Term) (ns : List ℤ) (i : ℕ) (e : Term) (n left right : ℤ) (whole : Checked ℤ) → i < length es → e ≡ get_or es i e → e.0 < length ns → n ≡ get_or ns e.0 n
    → passes left right ≡ and_then (checked_product limit e.1 n) (λ x. checked_sum limit t x) → entries_dot limit t (drop i es) ns ≡ whole → passes left right ≡ whole
dot_stops limit t es ns i e n left right whole h is below k p before =
    ap (λ y. and_then y (λ z. entries_dot limit z (drop (i + 1) es) ns)) p ∙ sym (entry_step limit t es ns i e n h is below k) ∙ before

pub dot_ends : (limit : ℕ) (t : ℤ) (es : List Term) (ns : List ℤ) (i : ℕ) (whole : Checked ℤ) → length es ≤ i → entries_dot limit t (drop i es) ns ≡ whole → fits t ≡ whole
dot_ends limit t es ns i whole h before = ap (λ xs. entries_dot limit t xs ns) (sym (drop_all i es h)) ∙ before

pub dot_past : (limit : ℕ) (t : ℤ) (es : List Term) (ns : List ℤ) (i : ℕ) (e : Term) (whole : Checked ℤ) → i < length es → e ≡ get_or es i e → length ns ≤ e.0 → entries_dot limit t (drop i es) ns ≡ whole → fits t ≡ whole
dot_past limit t es ns i e whole h is past before =
    let outside : nat_lt e.0 (length ns) ≡ false = grind arith in
    sym (ap (λ xs. entries_dot limit t xs ns) (drop_more es i e h ∙ ap (λ x. x ∷ drop (i + 1) es) (sym is))
    ∙ ap (λ b. if b then and_then (and_then (checked_product limit e.1 (get_or ns e.0 (pos 0))) (λ x. checked_sum limit t x)) (λ s. entries_dot limit s (drop (i + 1) es) ns) else fits t) outside) ∙ before
