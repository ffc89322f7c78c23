-- Lists of entries: one entry more, and the next place that one of two lists has.
use Rattle.std.proofs.Common.{◌≡◌, ◌≢◌, ℕ, ◌+◌, ◌<◌, ◌≤◌, ℤ, pos, Bool, true, false, if◌then◌else◌, List, [], ◌∷◌, ◌++◌, All, sym, ap, ◌∙◌, subst, refl, arith}
use Rattle.std.proofs.lemmas.Int.{ints}
use Rattle.std.proofs.lemmas.List.Elements.{All-nil, All-cons, All-head, All-tail, All-push, All-weaker}
use Rattle.kat_linear.specs.Rows.{Term, AreAscending, coefficient_in}
use Rattle.kat_linear.proofs.Columns.{coefficient_below}
use Rattle.kat_fm.specs.Comparisons.{is_zero}
use Rattle.kat_fm.specs.Entries.{with_entry, IsNextPlace}
use Rattle.kat_fm.proofs.EntryPlaces.{first_at, others_at, past_all, pushed_apart, pushed_here}

pub ascending_pushed : (es : List Term) (e : Term) → AreAscending es → All (λ (x : Term). x.0 < e.0) es → AreAscending (es ++ e ∷ [])
ascending_pushed [] e h k = (All-nil (λ (u : Term). e.0 < u.0), tt)
ascending_pushed (x ∷ es) e h k =
    (All-push (λ (u : Term). x.0 < u.0) es e h.0 (All-head (λ (y : Term). y.0 < e.0) x es k), ascending_pushed es e h.1 (All-tail (λ (y : Term). y.0 < e.0) x es k))

zero_from : (z : ℤ) → is_zero z ≡ true → z ≡ pos 0
zero_from z h = grind (arith, ints)

nonzero_from : (z : ℤ) → is_zero z ≡ false → z ≢ pos 0
nonzero_from z h = λ e. absurd (grind (arith, ints))

-- by whether the number is 0
by_zero : (P : List Term → Type 0) (es : List Term) (place : ℕ) (z : ℤ) → (z ≡ pos 0 → P es) → (z ≢ pos 0 → P (es ++ (place, z) ∷ [])) → P (with_entry es place z)
by_zero P es place z h k = at_test (is_zero z) refl
  where
    at_test : (b : Bool) → is_zero z ≡ b → P (if b then es else es ++ (place, z) ∷ [])
    at_test true e = h (zero_from z e)
    at_test false e = k (nonzero_from z e)

pub entry_apart : (es : List Term) (place : ℕ) (z : ℤ) (w : ℕ) → place ≢ w → coefficient_in (with_entry es place z) w ≡ coefficient_in es w
entry_apart es place z w h = by_zero (λ xs. coefficient_in xs w ≡ coefficient_in es w) es place z (λ e. refl) (λ e. pushed_apart es (place, z) w h)

pub entry_here : (es : List Term) (place : ℕ) (z : ℤ) → All (λ (e : Term). e.0 < place) es → coefficient_in (with_entry es place z) place ≡ z
entry_here es place z h = by_zero (λ xs. coefficient_in xs place ≡ z) es place z (λ e. past_all es place h ∙ sym e) (λ e. pushed_here es (place, z) h)

pub entry_ascending : (es : List Term) (place : ℕ) (z : ℤ) → AreAscending es → All (λ (e : Term). e.0 < place) es → AreAscending (with_entry es place z)
entry_ascending es place z h k = by_zero AreAscending es place z (λ e. h) (λ e. ascending_pushed es (place, z) h k)

pub entry_all : (P : Term → Type 0) (es : List Term) (place : ℕ) (z : ℤ) → All P es → (z ≢ pos 0 → P (place, z)) → All P (with_entry es place z)
entry_all P es place z h k = by_zero (All P) es place z (λ e. h) (λ e. All-push P es (place, z) h (k e))

-- what comes before an ascending list
pub all_above : (n : ℕ) (e : Term) (es : List Term) → n < e.0 → AreAscending (e ∷ es) → All (λ (u : Term). n < u.0) (e ∷ es)
all_above n e es h k = All-cons (λ (u : Term). n < u.0) e es h (All-weaker (λ (u : Term). e.0 < u.0) (λ (u : Term). n < u.0) (λ u l. omega arith) es k.0)

pub head_from : (n : ℕ) (e : Term) (es : List Term) → All (λ (u : Term). n ≤ u.0) (e ∷ es) → n ≤ e.0
head_from n e es h = All-head (λ (u : Term). n ≤ u.0) e es h

-- the next place is the first list's, the second list's, or that of both
pub next_plus : (e : Term) (es ns : List Term) → AreAscending (e ∷ es) → AreAscending ns → All (λ (u : Term). e.0 < u.0) ns → IsNextPlace (e ∷ es) ns es ns e.0 e.1 (pos 0)
next_plus e es ns h k above = record {
  plus = sym (first_at e es h);
  minus = sym (coefficient_below ns e.0 above);
  reached = λ from a b. head_from from e es a;
  before = λ w l. (coefficient_below (e ∷ es) w (all_above w e es l h), coefficient_below ns w (All-weaker (λ (u : Term). e.0 < u.0) (λ (u : Term). w < u.0) (λ u m. omega arith) ns above));
  behind = λ w l. (others_at e es w (λ s. omega arith), refl);
  plus_behind = h.0;
  minus_behind = above;
  plus_ascending = h.1;
  minus_ascending = k;
}

pub next_minus : (ps : List Term) (e : Term) (es : List Term) → AreAscending ps → AreAscending (e ∷ es) → All (λ (u : Term). e.0 < u.0) ps → IsNextPlace ps (e ∷ es) ps es e.0 (pos 0) e.1
next_minus ps e es h k above = record {
  plus = sym (coefficient_below ps e.0 above);
  minus = sym (first_at e es k);
  reached = λ from a b. head_from from e es b;
  before = λ w l. (coefficient_below ps w (All-weaker (λ (u : Term). e.0 < u.0) (λ (u : Term). w < u.0) (λ u m. omega arith) ps above), coefficient_below (e ∷ es) w (all_above w e es l k));
  behind = λ w l. (refl, others_at e es w (λ s. omega arith));
  plus_behind = above;
  minus_behind = k.0;
  plus_ascending = h;
  minus_ascending = k.1;
}

pub next_both : (e : Term) (es : List Term) (d : Term) (ds : List Term) → AreAscending (e ∷ es) → AreAscending (d ∷ ds) → d.0 ≡ e.0 → IsNextPlace (e ∷ es) (d ∷ ds) es ds e.0 e.1 d.1
next_both e es d ds h k same = record {
  plus = sym (first_at e es h);
  minus = sym (first_at d ds k) ∙ ap (coefficient_in (d ∷ ds)) same;
  reached = λ from a b. head_from from e es a;
  before = λ w l. (coefficient_below (e ∷ es) w (all_above w e es l h), coefficient_below (d ∷ ds) w (all_above w d ds (omega arith) k));
  behind = λ w l. (others_at e es w (λ s. omega arith), others_at d ds w (λ s. omega arith));
  plus_behind = h.0;
  minus_behind = All-weaker (λ (u : Term). d.0 < u.0) (λ (u : Term). e.0 < u.0) (λ u m. omega arith) ds k.0;
  plus_ascending = h.1;
  minus_ascending = k.1;
}

-- the same for lists that are known to begin so
pub plus_next : (ps es ns : List Term) (place : ℕ) (z : ℤ) → ps ≡ (place, z) ∷ es → AreAscending ps → AreAscending ns → All (λ (u : Term). place < u.0) ns → IsNextPlace ps ns es ns place z (pos 0)
plus_next ps es ns place z e h k above = let P : List Term → Type 0 = λ xs. IsNextPlace xs ns es ns place z (pos 0) in subst P (sym e) (next_plus (place, z) es ns (subst AreAscending e h) k above)

pub minus_next : (ps ns es : List Term) (place : ℕ) (z : ℤ) → ns ≡ (place, z) ∷ es → AreAscending ps → AreAscending ns → All (λ (u : Term). place < u.0) ps → IsNextPlace ps ns ps es place (pos 0) z
minus_next ps ns es place z e h k above = let P : List Term → Type 0 = λ xs. IsNextPlace ps xs ps es place (pos 0) z in subst P (sym e) (next_minus ps (place, z) es h (subst AreAscending e k) above)

pub both_next : (ps es ns ds : List Term) (place other : ℕ) (z y : ℤ) → ps ≡ (place, z) ∷ es → ns ≡ (other, y) ∷ ds → AreAscending ps → AreAscending ns → other ≡ place → IsNextPlace ps ns es ds place z y
both_next ps es ns ds place other z y e f h k same =
    let P : List Term → Type 0 = λ xs. IsNextPlace xs ns es ds place z y in
    let Q : List Term → Type 0 = λ xs. IsNextPlace ((place, z) ∷ es) xs es ds place z y in
    subst P (sym e) (subst Q (sym f) (next_both (place, z) es (other, y) ds (subst AreAscending e h) (subst AreAscending f k) same))

pub none_above : (n : ℕ) (xs : List Term) → xs ≡ [] → All (λ (u : Term). n < u.0) xs
none_above n xs e = let P : List Term → Type 0 = λ ys. All (λ (u : Term). n < u.0) ys in subst P (sym e) (All-nil (λ (u : Term). n < u.0))

pub head_above : (n place : ℕ) (z : ℤ) (xs es : List Term) → xs ≡ (place, z) ∷ es → AreAscending xs → n < place → All (λ (u : Term). n < u.0) xs
head_above n place z xs es e h l = let P : List Term → Type 0 = λ ys. All (λ (u : Term). n < u.0) ys in subst P (sym e) (all_above n (place, z) es l (subst AreAscending e h))
