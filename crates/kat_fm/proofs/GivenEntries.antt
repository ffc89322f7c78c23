-- The entries of a unit, and those of terms of which some may be 0.
use Rattle.std.proofs.Common.{◌≡◌, ◌≢◌, ℕ, ◌+◌, ◌<◌, ℤ, pos, ◌+ℤ◌, Bool, true, false, if◌then◌else◌, List, [], ◌∷◌, ◌++◌, All, length, map, set, take, get_or, sym, ap, ◌∙◌, refl, arith}
use Rattle.std.specs.Prelude.{not, ◌==◌}
use Rattle.std.proofs.Math.IntN.{+ℤ_idl}
use Rattle.std.proofs.lemmas.Int.{ints}
use Rattle.std.proofs.lemmas.Bool.{false≢true}
use Rattle.std.proofs.lemmas.List.{append-nil, take_more}
use Rattle.std.proofs.lemmas.List.Elements.{All-nil, All-weaker, All-filter, filter-append, filter_passes}
use Rattle.kat_linear.specs.Rows.{Term, AreAscending, coefficient_in}
use Rattle.kat_fm.specs.Combinations.{counted, unit_at}
use Rattle.kat_fm.specs.Comparisons.{is_zero}
use Rattle.kat_fm.specs.Entries.{AreEntries, numbers_at, with_entry, without_zeros}
use Rattle.kat_fm.proofs.Spreads.{is_zero_at, set_entry, nothing_spread}

-- a unit
pub unit_is : (count place : ℕ) → numbers_at count ((place, pos 1) ∷ []) ≡ unit_at place count
unit_is count place = set_entry count [] (place, pos 1) (All-nil (λ (x : Term). x.0 < place)) ∙ ap (λ xs. set xs place (pos 1)) (nothing_spread count)

-- terms without those of 0
pub without_more : (ts : List Term) (i : ℕ) (d : Term) → i < length ts → without_zeros (take (i + 1) ts) ≡ with_entry (without_zeros (take i ts)) (get_or ts i d).0 (get_or ts i d).1
without_more ts i d h =
    let t = get_or ts i d in
    ap without_zeros (take_more ts i d h) ∙ filter-append (λ (e : Term). not (is_zero e.1)) (take i ts) (t ∷ []) ∙ at_test (is_zero t.1) t (without_zeros (take i ts))
  where
    at_test : (b : Bool) (t : Term) (es : List Term) → es ++ (if not b then t ∷ [] else []) ≡ (if b then es else es ++ (t.0, t.1) ∷ [])
    at_test true t es = append-nil es
    at_test false t es = refl

pub without_ascending : (ts : List Term) → AreAscending ts → AreAscending (without_zeros ts)
without_ascending [] h = tt
without_ascending (t ∷ ts) h = at_test (is_zero t.1) (without_ascending ts h.1)
  where
    at_test : (b : Bool) → AreAscending (without_zeros ts) → AreAscending (if not b then t ∷ without_zeros ts else without_zeros ts)
    at_test true k = k
    at_test false k = (All-filter (λ (e : Term). not (is_zero e.1)) (λ (u : Term). t.0 < u.0) ts h.0, k)

not_zero_from : (e : Term) → not (is_zero e.1) ≡ true → e.1 ≢ pos 0
not_zero_from e h k = absurd (let f : is_zero e.1 ≡ true = is_zero_at e.1 k in false≢true (ap not (sym f) ∙ h))

pub without_entries : (count : ℕ) (ts : List Term) → AreAscending ts → All (λ (t : Term). t.0 < count) ts → AreEntries count (without_zeros ts)
without_entries count ts h k = record {
  ascending = without_ascending ts h;
  below = All-filter (λ (e : Term). not (is_zero e.1)) (λ (t : Term). t.0 < count) ts k;
  not_zero = All-weaker (λ (e : Term). not (is_zero e.1) ≡ true) (λ (e : Term). e.1 ≢ pos 0) (λ e l. not_zero_from e l) (without_zeros ts) (filter_passes (λ (e : Term). not (is_zero e.1)) ts);
}

without_same : (ts : List Term) (w : ℕ) → coefficient_in (without_zeros ts) w ≡ coefficient_in ts w
without_same [] w = refl
without_same (t ∷ ts) w = at_test (is_zero t.1) refl (without_same ts w)
  where
    no_part : (b : Bool) (z : ℤ) → z ≡ pos 0 → (if b then z else pos 0) ≡ pos 0
    no_part true z e = e
    no_part false z e = refl

    at_test : (b : Bool) → is_zero t.1 ≡ b → coefficient_in (without_zeros ts) w ≡ coefficient_in ts w → coefficient_in (if not b then t ∷ without_zeros ts else without_zeros ts) w ≡ (if t.0 == w then t.1 else pos 0) +ℤ coefficient_in ts w
    at_test false e k = ap (λ z. (if t.0 == w then t.1 else pos 0) +ℤ z) k
    at_test true e k =
        let none : (if t.0 == w then t.1 else pos 0) ≡ pos 0 = no_part (t.0 == w) t.1 (grind (arith, ints)) in
        k ∙ sym (ap (λ z. z +ℤ coefficient_in ts w) none ∙ +ℤ_idl (coefficient_in ts w))

pub without_numbers : (count : ℕ) (ts : List Term) → numbers_at count (without_zeros ts) ≡ numbers_at count ts
without_numbers count ts = λ i. map (λ w. without_same ts w i) (counted 0 count)
