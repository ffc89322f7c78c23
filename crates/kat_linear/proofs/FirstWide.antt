-- The first product or sum that goes wide, and the columns that do.
use Rattle.std.proofs.Common.{◌≡◌, ◌≢◌, ℕ, suc, ◌+◌, ◌<◌, ◌≤◌, ◌^◌, ◌==◌, ℤ, pos, ◌+ℤ◌, ◌*ℤ◌, Bool, true, false, if◌then◌else◌, unsigned_abs, nat_le, ◌⊎◌, inl, inr, ⊎_elim, List, [], ◌∷◌, ◌++◌, All, Contains, length, take, get_or, Option, Some, None, IsSome, ◌↔◌, drop, refl, sym, ap, ◌∙◌, subst, arith, append_assoc}
use Rattle.std.proofs.Math.IntN.{*ℤ-zero, zero-*ℤ}
use Rattle.std.proofs.lemmas.Int.{ints}
use Rattle.std.proofs.lemmas.Bool.{leb-true, leb-false, lt-leb, le-leb, eqb-true, eqb-false, cases_lt, false≢true}
use Rattle.std.proofs.lemmas.List.{append-nil, drop_more, map_more, take_more, take-map, length-map, length-take, length-append, take_all, take-append-le, get_or_append_left, length_push}
use Rattle.std.proofs.lemmas.List.Elements.{All-take, All-head, All-tail, All-contains}
use Rattle.kat_linear.specs.declared.Row.{Row}
use Rattle.kat_linear.specs.Rows.{form_of, forms, Form, Term, AreAscending, IsAscending, coefficient_in, coefficient}
use Rattle.kat_linear.specs.Sums.{IsNarrow, IsWide, int_sum, products, combined, StaysNarrow, GoesWide, AreNarrow, AreWide}
use Rattle.kat_linear.specs.Widths.{pair_of, earlier, pair_at, pair_in_terms, pair_in_row, widths_from, widths}
use Rattle.kat_linear.specs.declared.Column.{Column}
use Rattle.kat_linear.specs.declared.Column.TheVariants.{Variable, Constant}
use Rattle.kat_linear.specs.Columns.{number_in}
use Rattle.kat_linear.proofs.Totals.{part_at, part_apart}
use Rattle.kat_linear.proofs.Columns.{coefficient_below, form_at, forms_same}

-- one pair
pair_none_at : (b : Bool) (a c z : ℤ) → nat_le (unsigned_abs z) (2 ^ 126) ≡ b → ◌≡◌ {A = Option (ℤ × ℤ)} (if b then None else Some (a, c)) None → IsNarrow z
pair_none_at true a c z h e = leb-true (unsigned_abs z) (2 ^ 126) h
pair_none_at false a c z h e = absurd (cc)

pair_none : (a c z : ℤ) → pair_of a c z ≡ None → IsNarrow z
pair_none a c z e = pair_none_at (nat_le (unsigned_abs z) (2 ^ 126)) a c z refl e

pair_some_at : (b : Bool) (a c z : ℤ) (p : ℤ × ℤ) → nat_le (unsigned_abs z) (2 ^ 126) ≡ b → ◌≡◌ {A = Option (ℤ × ℤ)} (if b then None else Some (a, c)) (Some p) → IsWide z
pair_some_at true a c z p h e = absurd (cc)
pair_some_at false a c z p h e = leb-false (unsigned_abs z) (2 ^ 126) h

pair_some : (a c z : ℤ) (p : ℤ × ℤ) → pair_of a c z ≡ Some p → IsWide z
pair_some a c z p e = pair_some_at (nat_le (unsigned_abs z) (2 ^ 126)) a c z p refl e

earlier_none : (a b : Option (ℤ × ℤ)) → earlier a b ≡ None → (a ≡ None) × (b ≡ None)
earlier_none None b e = (refl, e)
earlier_none (Some p) b e = absurd (cc)

earlier_some : (a b : Option (ℤ × ℤ)) (p : ℤ × ℤ) → earlier a b ≡ Some p → (a ≡ Some p) ⊎ ((a ≡ None) × (b ≡ Some p))
earlier_some None b p e = inr (refl, e)
earlier_some (Some q) b p e = inl e

-- a product and its sum
at_none : (m sum n : ℤ) → pair_at m sum n ≡ None → IsNarrow (m *ℤ n) × IsNarrow (sum +ℤ (m *ℤ n))
at_none m sum n e =
    let parts = earlier_none (pair_of m n (m *ℤ n)) (pair_of sum (m *ℤ n) (sum +ℤ (m *ℤ n))) e in
    (pair_none m n (m *ℤ n) parts.0, pair_none sum (m *ℤ n) (sum +ℤ (m *ℤ n)) parts.1)

abbrev pub IsWideWith : ℤ → ℤ → Type 0
IsWideWith sum z = IsWide z ⊎ IsWide (sum +ℤ z)

at_some : (m sum n : ℤ) (p : ℤ × ℤ) → pair_at m sum n ≡ Some p → IsWideWith sum (m *ℤ n)
at_some m sum n p e = ⊎_elim
    (λ (k : pair_of m n (m *ℤ n) ≡ Some p). inl (pair_some m n (m *ℤ n) p k))
    (λ (k : (pair_of m n (m *ℤ n) ≡ None) × (pair_of sum (m *ℤ n) (sum +ℤ (m *ℤ n)) ≡ Some p)). inr (pair_some sum (m *ℤ n) (sum +ℤ (m *ℤ n)) p k.1))
    (earlier_some (pair_of m n (m *ℤ n)) (pair_of sum (m *ℤ n) (sum +ℤ (m *ℤ n))) p e)

-- the coefficient of a variable when a row begins with a term of it, or of another
coefficient_here : (t : Term) (ts : List Term) (v : ℕ) → t.0 ≡ v → All (λ (u : Term). t.0 < u.0) ts → coefficient_in (t ∷ ts) v ≡ t.1
coefficient_here t ts v e low =
    let rest : coefficient_in ts v ≡ pos 0 = ap (coefficient_in ts) (sym e) ∙ coefficient_below ts t.0 low in
    rw (part_at t v e, rest) (omega (arith, ints))

coefficient_apart : (t : Term) (ts : List Term) (v : ℕ) → t.0 ≢ v → coefficient_in (t ∷ ts) v ≡ coefficient_in ts v
coefficient_apart t ts v ne = rw (part_apart t v ne) (omega (arith, ints))

abbrev pub IsNarrowWith : ℤ → ℤ → Type 0
IsNarrowWith sum z = IsNarrow z × IsNarrow (sum +ℤ z)

-- every variable, if none of the terms' products and sums goes wide
terms_none : (m : ℤ) (sums : ℕ → ℤ) (ts : List Term) (v : ℕ) → AreAscending ts → IsNarrow (sums v) → pair_in_terms m sums ts ≡ None → IsNarrowWith (sums v) (m *ℤ coefficient_in ts v)
terms_none m sums [] v up narrow e =
    let z : m *ℤ pos 0 ≡ pos 0 = *ℤ-zero m in
    let P : ℤ → Type 0 = IsNarrowWith (sums v) in
    let same : sums v +ℤ pos 0 ≡ sums v = omega (arith, ints) in
    let Q : ℤ → Type 0 = IsNarrow in
    subst P (sym z) (omega arith, subst Q (sym same) narrow)
terms_none m sums (t ∷ ts) v up narrow e =
    let parts = earlier_none (pair_at m (sums t.0) t.1) (pair_in_terms m sums ts) e in
    ⊎_elim
    (λ (here : t.0 ≡ v).
    let P : ℤ → Type 0 = λ c. IsNarrowWith (sums v) (m *ℤ c) in
    let Q : ℕ → Type 0 = λ u. IsNarrowWith (sums u) (m *ℤ t.1) in
    subst P (sym (coefficient_here t ts v here up.0)) (subst Q here (at_none m (sums t.0) t.1 parts.0)))
    (λ (apart : t.0 ≢ v).
    let P : ℤ → Type 0 = λ c. IsNarrowWith (sums v) (m *ℤ c) in
    subst P (sym (coefficient_apart t ts v apart)) (terms_none m sums ts v up.1 narrow parts.1))
    (same_or_not t.0 v)
  where
    same_or_not : (a b : ℕ) → (a ≡ b) ⊎ (a ≢ b)
    same_or_not a b = at (a == b) refl
      where
        at : (x : Bool) → (a == b) ≡ x → (a ≡ b) ⊎ (a ≢ b)
        at true h = inl (eqb-true a b h)
        at false h = inr (λ k. eqb-false a b h k)

-- the term whose product or sum goes wide
pub record WideTerm (m : ℤ) (sums : ℕ → ℤ) (ts : List Term) : Type 0 where
  pub term : Term
  pub among : Contains ts term
  pub whole : coefficient_in ts term.0 ≡ term.1
  pub wide : IsWideWith (sums term.0) (m *ℤ term.1)

terms_some : (m : ℤ) (sums : ℕ → ℤ) (ts : List Term) (p : ℤ × ℤ) → AreAscending ts → pair_in_terms m sums ts ≡ Some p → WideTerm m sums ts
terms_some m sums [] p up e = absurd (cc)
terms_some m sums (t ∷ ts) p up e = ⊎_elim
    (λ (k : pair_at m (sums t.0) t.1 ≡ Some p). record { term = t; among = (0, omega arith, refl); whole = coefficient_here t ts t.0 refl up.0; wide = at_some m (sums t.0) t.1 p k })
    (λ (k : (pair_at m (sums t.0) t.1 ≡ None) × (pair_in_terms m sums ts ≡ Some p)).
    let found = terms_some m sums ts p up.1 k.1 in
    let later : t.0 < found.term.0 = All-contains (λ (u : Term). t.0 < u.0) ts found.term up.0 found.among in
    record { term = found.term; among = (suc found.among.0, omega (arith, found.among.1), found.among.2); whole = coefficient_apart t ts found.term.0 (λ same. omega arith) ∙ found.whole; wide = found.wide })
    (earlier_some (pair_at m (sums t.0) t.1) (pair_in_terms m sums ts) p e)

-- rows after rows
products-append : (number : Form → ℤ) (before : List Form) (done : List ℤ) (rows : List Form) (ms : List ℤ) → length before ≡ length done → products number (before ++ rows) (done ++ ms) ≡ products number before done ++ products number rows ms
products-append number [] [] rows ms h = refl
products-append number [] (d ∷ done) rows ms h = absurd (omega arith)
products-append number (b ∷ before) [] rows ms h = absurd (omega arith)
products-append number (b ∷ before) (d ∷ done) rows ms h = ap (λ zs. (d *ℤ number b) ∷ zs) (products-append number before done rows ms (omega arith))

int_sum-push : (zs : List ℤ) (z : ℤ) → int_sum (zs ++ z ∷ []) ≡ int_sum zs +ℤ z
int_sum-push [] z = omega (arith, ints)
int_sum-push (y ∷ zs) z = rw (int_sum-push zs z) (omega (arith, ints))

take_past : (zs : List ℤ) (z : ℤ) (rest : List ℤ) → take (suc (length zs)) (zs ++ z ∷ rest) ≡ zs ++ z ∷ []
take_past [] z rest = refl
take_past (y ∷ zs) z rest = ap (λ ys. y ∷ ys) (take_past zs z rest)

get_past : (zs : List ℤ) (z : ℤ) (rest : List ℤ) (d : ℤ) → get_or (zs ++ z ∷ rest) (length zs) d ≡ z
get_past [] z rest d = refl
get_past (y ∷ zs) z rest d = get_past zs z rest d

-- one more number of a column that stays narrow
stays_more : (zs : List ℤ) (z : ℤ) → StaysNarrow zs → IsNarrowWith (int_sum zs) z → StaysNarrow (zs ++ z ∷ [])
stays_more zs z narrow here k below = ⊎_elim
    (λ (low : k < length zs).
    let a : get_or (zs ++ z ∷ []) k (pos 0) ≡ get_or zs k (pos 0) = get_or_append_left zs (z ∷ []) (pos 0) k low in
    let b : take (suc k) (zs ++ z ∷ []) ≡ take (suc k) zs = take-append-le (suc k) zs (z ∷ []) (omega arith) in
    let P : ℤ → Type 0 = IsNarrow in
    let Q : List ℤ → Type 0 = λ ys. IsNarrow (int_sum ys) in
    (subst P (sym a) (narrow k low).0, subst Q (sym b) (narrow k low).1))
    (λ (high : length zs ≤ k).
    let last : k ≡ length zs = omega (arith, length_push zs z) in
    let R : ℕ → Type 0 = λ j. IsNarrow (get_or (zs ++ z ∷ []) j (pos 0)) × IsNarrow (int_sum (take (suc j) (zs ++ z ∷ []))) in
    let P : ℤ → Type 0 = IsNarrow in
    subst R (sym last) (subst P (sym (get_past zs z [] (pos 0))) here.0, subst P (sym (ap int_sum (take_past zs z []) ∙ int_sum-push zs z)) here.1))
    (cases_lt k (length zs))

goes_wide_at : (zs : List ℤ) (z : ℤ) (rest : List ℤ) → IsWideWith (int_sum zs) z → GoesWide (zs ++ z ∷ rest)
goes_wide_at zs z rest wide =
    let P : ℤ → Type 0 = IsWide in (
      length zs,
      omega (arith, length-append zs (z ∷ rest)),
      ⊎_elim
          (λ (w : IsWide z). inl (subst P (sym (get_past zs z rest (pos 0))) w))
          (λ (w : IsWide (int_sum zs +ℤ z)). inr (subst P (sym (ap int_sum (take_past zs z rest) ∙ int_sum-push zs z)) w))
          wide,
    )

pub not_both : (zs : List ℤ) → StaysNarrow zs → GoesWide zs → ⊥
not_both zs narrow wide =
    let here = narrow wide.0 wide.1 in
    ⊎_elim (λ (w : IsWide (get_or zs wide.0 (pos 0))). omega (arith, here.0, w)) (λ (w : IsWide (int_sum (take (suc wide.0) zs))). omega (arith, here.1, w)) wide.2

-- the whole of a narrow column is narrow
whole_narrow : (zs : List ℤ) → StaysNarrow zs → IsNarrow (int_sum zs)
whole_narrow [] narrow = omega arith
whole_narrow (z ∷ zs) narrow =
    let P : List ℤ → Type 0 = λ ys. IsNarrow (int_sum ys) in
    subst P (take_all (suc (length zs)) (z ∷ zs) (omega arith)) (narrow (length zs) (omega arith)).1

-- one more row, if none of its products and sums goes wide
pub row_narrow : (before : List Form) (done : List ℤ) (m : ℤ) (row : Form) → length before ≡ length done → IsAscending row → AreNarrow before done → pair_in_row before done m row ≡ None → AreNarrow (before ++ row ∷ []) (done ++ m ∷ [])
row_narrow before done m row h up narrow e =
    let parts = earlier_none (pair_in_terms m (λ v. combined (coefficient v) before done) row.terms) (pair_at m (combined (λ (r : Form). r.constant) before done) row.constant) e in
    let P : List ℤ → Type 0 = StaysNarrow in
    record {
      constants = subst P (sym (products-append (λ (r : Form). r.constant) before done (row ∷ []) (m ∷ []) h))
          (stays_more (products (λ (r : Form). r.constant) before done) (m *ℤ row.constant) narrow.constants (at_none m (combined (λ (r : Form). r.constant) before done) row.constant parts.1));
      coefficients = λ v. subst P (sym (products-append (coefficient v) before done (row ∷ []) (m ∷ []) h))
          (stays_more (products (coefficient v) before done) (m *ℤ coefficient v row) (narrow.coefficients v)
          (terms_none m (λ u. combined (coefficient u) before done) row.terms v up (whole_narrow (products (coefficient v) before done) (narrow.coefficients v)) parts.0));
    }

row_wide : (before : List Form) (done : List ℤ) (m : ℤ) (row : Form) (rows : List Form) (ms : List ℤ) (p : ℤ × ℤ) → length before ≡ length done → IsAscending row → pair_in_row before done m row ≡ Some p → AreWide (before ++ row ∷ rows) (done ++ m ∷ ms)
row_wide before done m row rows ms p h up e =
    let P : List ℤ → Type 0 = GoesWide in
    ⊎_elim
    (λ (k : pair_in_terms m (λ v. combined (coefficient v) before done) row.terms ≡ Some p).
    let found = terms_some m (λ v. combined (coefficient v) before done) row.terms p up k in
    let v = found.term.0 in
    let Q : ℤ → Type 0 = λ c. IsWideWith (combined (coefficient v) before done) (m *ℤ c) in
    inr (
      v,
      subst P (sym (products-append (coefficient v) before done (row ∷ rows) (m ∷ ms) h))
          (goes_wide_at (products (coefficient v) before done) (m *ℤ coefficient v row) (products (coefficient v) rows ms) (subst Q (sym found.whole) found.wide)),
    ))
    (λ (k : (pair_in_terms m (λ v. combined (coefficient v) before done) row.terms ≡ None) × (pair_at m (combined (λ (r : Form). r.constant) before done) row.constant ≡ Some p)).
    inl (subst P (sym (products-append (λ (r : Form). r.constant) before done (row ∷ rows) (m ∷ ms) h))
    (goes_wide_at (products (λ (r : Form). r.constant) before done) (m *ℤ row.constant) (products (λ (r : Form). r.constant) rows ms) (at_some m (combined (λ (r : Form). r.constant) before done) row.constant p k.1))))
    (earlier_some (pair_in_terms m (λ v. combined (coefficient v) before done) row.terms) (pair_at m (combined (λ (r : Form). r.constant) before done) row.constant) p e)

-- all rows
none_wide : (before : List Form) (done : List ℤ) (rows : List Form) (ms : List ℤ) → length before ≡ length done → length rows ≡ length ms → All IsAscending rows → AreNarrow before done → widths_from before done rows ms ≡ None → AreNarrow (before ++ rows) (done ++ ms)
none_wide before done [] [] h k up narrow e =
    let a : before ++ [] ≡ before = append-nil before in
    let b : done ++ [] ≡ done = append-nil done in
    let P : List Form → Type 0 = λ fs. AreNarrow fs (done ++ []) in
    let Q : List ℤ → Type 0 = λ xs. AreNarrow before xs in
    subst P (sym a) (subst Q (sym b) narrow)
none_wide before done [] (m ∷ ms) h k up narrow e = absurd (omega arith)
none_wide before done (row ∷ rows) [] h k up narrow e = absurd (omega arith)
none_wide before done (row ∷ rows) (m ∷ ms) h k up narrow e =
    let parts = earlier_none (pair_in_row before done m row) (widths_from (before ++ row ∷ []) (done ++ m ∷ []) rows ms) e in
    let here = row_narrow before done m row h (All-head IsAscending row rows up) narrow parts.0 in
    let whole = none_wide (before ++ row ∷ []) (done ++ m ∷ []) rows ms (omega (arith, length_push before row, length_push done m)) (omega arith) (All-tail IsAscending row rows up) here parts.1 in
    let P : List Form → Type 0 = λ fs. AreNarrow fs (done ++ m ∷ ms) in
    let Q : List ℤ → Type 0 = λ xs. AreNarrow ((before ++ row ∷ []) ++ rows) xs in
    subst P (append_assoc before (row ∷ []) rows) (subst Q (append_assoc done (m ∷ []) ms) whole)

some_wide : (before : List Form) (done : List ℤ) (rows : List Form) (ms : List ℤ) (p : ℤ × ℤ) → length before ≡ length done → All IsAscending rows → widths_from before done rows ms ≡ Some p → AreWide (before ++ rows) (done ++ ms)
some_wide before done [] ms p h up e = absurd (cc)
some_wide before done (row ∷ rows) [] p h up e = absurd (cc)
some_wide before done (row ∷ rows) (m ∷ ms) p h up e = ⊎_elim
    (λ (k : pair_in_row before done m row ≡ Some p). row_wide before done m row rows ms p h (All-head IsAscending row rows up) k)
    (λ (k : (pair_in_row before done m row ≡ None) × (widths_from (before ++ row ∷ []) (done ++ m ∷ []) rows ms ≡ Some p)).
    let whole = some_wide (before ++ row ∷ []) (done ++ m ∷ []) rows ms p (omega (arith, length_push before row, length_push done m)) (All-tail IsAscending row rows up) k.1 in
    let P : List Form → Type 0 = λ fs. AreWide fs (done ++ m ∷ ms) in
    let Q : List ℤ → Type 0 = λ xs. AreWide ((before ++ row ∷ []) ++ rows) xs in
    subst P (append_assoc before (row ∷ []) rows) (subst Q (append_assoc done (m ∷ []) ms) whole))
    (earlier_some (pair_in_row before done m row) (widths_from (before ++ row ∷ []) (done ++ m ∷ []) rows ms) p e)

pub nothing_narrow : AreNarrow [] []
nothing_narrow = record { constants = λ k below. absurd (omega arith); coefficients = λ v k below. absurd (omega arith) }

pub narrow_rows : (rows : List Form) (ms : List ℤ) → length rows ≡ length ms → All IsAscending rows → widths rows ms ≡ None → AreNarrow rows ms
narrow_rows rows ms h up e = none_wide [] [] rows ms refl h up nothing_narrow e

pub not_narrow : (rows : List Form) (ms : List ℤ) → AreNarrow rows ms → AreWide rows ms → ⊥
not_narrow rows ms narrow wide = ⊎_elim
    (λ (w : GoesWide (products (λ (r : Form). r.constant) rows ms)). not_both (products (λ (r : Form). r.constant) rows ms) narrow.constants w)
    (λ (w : (v : ℕ) × GoesWide (products (coefficient v) rows ms)). not_both (products (coefficient w.0) rows ms) (narrow.coefficients w.0) w.1)
    wide

pub wide_rows : (rows : List Form) (ms : List ℤ) (p : ℤ × ℤ) → All IsAscending rows → widths rows ms ≡ Some p → AreWide rows ms
wide_rows rows ms p up e = some_wide [] [] rows ms p refl up e

-- the pair of a sum that goes wide
pair_wide : (a c z : ℤ) → IsWide z → Some (a, c) ≡ pair_of a c z
pair_wide a c z w = ap (λ b. if b then None else Some (a, c)) (sym (lt-leb (unsigned_abs z) (2 ^ 126) w))

pair_narrow : (a c z : ℤ) → IsNarrow z → pair_of a c z ≡ None
pair_narrow a c z n = ap (λ b. if b then None else Some (a, c)) (le-leb (unsigned_abs z) (2 ^ 126) n)

pub pair_at_sum : (m sum n product : ℤ) → product ≡ m *ℤ n → IsNarrow product → IsWide (sum +ℤ product) → Some (sum, product) ≡ pair_at m sum n
pair_at_sum m sum n product is narrow wide =
    let P : ℤ → Type 0 = IsNarrow in
    pair_wide sum product (sum +ℤ product) wide
    ∙ ap (λ z. pair_of sum z (sum +ℤ z)) is
    ∙ ap (λ o. earlier o (pair_of sum (m *ℤ n) (sum +ℤ (m *ℤ n)))) (sym (pair_narrow m n (m *ℤ n) (subst P is narrow)))

-- one column of rows that are narrow
pub column_narrow : (column : Column) (rows : List Form) (ms : List ℤ) → AreNarrow rows ms → GoesWide (products (number_in column) rows ms) → ⊥
column_narrow Constant rows ms narrow wide = not_both (products (λ (r : Form). r.constant) rows ms) narrow.constants wide
column_narrow (Variable v) rows ms narrow wide = not_both (products (coefficient v) rows ms) (narrow.coefficients v) wide

-- there is a pair if and only if a column goes wide
pairs_at : (rows : List Form) (ms : List ℤ) (o : Option (ℤ × ℤ)) → widths rows ms ≡ o → length rows ≡ length ms → All IsAscending rows → IsSome o ↔ AreWide rows ms
pairs_at rows ms None e h up = ((λ s. absurd (false≢true s)), (λ wide. absurd (not_narrow rows ms (narrow_rows rows ms h up e) wide)))
pairs_at rows ms (Some p) e h up = ((λ s. wide_rows rows ms p up e), (λ wide. refl))

pub pairs_are_wide : (rows : List Form) (ms : List ℤ) → length rows ≡ length ms → All IsAscending rows → IsSome (widths rows ms) ↔ AreWide rows ms
pairs_are_wide rows ms h up = pairs_at rows ms (widths rows ms) refl h up

-- one more term
pub term_ends : (m : ℤ) (sums : ℕ → ℤ) (ts : List Term) (i : ℕ) (t : Term) (p : ℤ × ℤ) (whole : Option (ℤ × ℤ)) → i < length ts → t ≡ get_or ts i t → Some p ≡ pair_at m (sums t.0) t.1 → pair_in_terms m sums (drop i ts) ≡ whole → Some p ≡ whole
term_ends m sums ts i t p whole h e is before =
    let rest = pair_in_terms m sums (drop (i + 1) ts) in
    ap (λ x. earlier x rest) is ∙ ap (λ u. pair_in_terms m sums (u ∷ drop (i + 1) ts)) e ∙ sym (ap (pair_in_terms m sums) (drop_more ts i t h)) ∙ before

pub term_goes : (m : ℤ) (sums : ℕ → ℤ) (ts : List Term) (i : ℕ) (t : Term) (whole : Option (ℤ × ℤ)) → i < length ts → t ≡ get_or ts i t → None ≡ pair_at m (sums t.0) t.1 → pair_in_terms m sums (drop i ts) ≡ whole → pair_in_terms m sums (drop (i + 1) ts) ≡ whole
term_goes m sums ts i t whole h e is before =
    let rest = pair_in_terms m sums (drop (i + 1) ts) in
    ap (λ x. earlier x rest) is ∙ ap (λ u. pair_in_terms m sums (u ∷ drop (i + 1) ts)) e ∙ sym (ap (pair_in_terms m sums) (drop_more ts i t h)) ∙ before

-- one more row
step_row : (rows : List Row) (ms : List ℤ) (i : ℕ) (row : Row) → i < length rows → length rows ≡ length ms → row ≡ get_or rows i row
    → widths_from (forms (take i rows)) (take i ms) (forms (drop i rows)) (drop i ms)
    ≡ earlier (pair_in_row (forms (take i rows)) (take i ms) (get_or ms i (pos 0)) (form_of row)) (widths_from (forms (take (i + 1) rows)) (take (i + 1) ms) (forms (drop (i + 1) rows)) (drop (i + 1) ms))
step_row rows ms i row h k e =
    let below : i < length ms = omega arith in
    let r = get_or rows i row in let m = get_or ms i (pos 0) in
    let behind_rows : forms (take (i + 1) rows) ≡ forms (take i rows) ++ form_of r ∷ [] = map_more form_of rows i row h in
    let behind_ms : take (i + 1) ms ≡ take i ms ++ m ∷ [] = take_more ms i (pos 0) below in
    ap (λ xs. widths_from (forms (take i rows)) (take i ms) (forms xs) (drop i ms)) (drop_more rows i row h)
    ∙ ap (λ xs. widths_from (forms (take i rows)) (take i ms) (form_of r ∷ forms (drop (i + 1) rows)) xs) (drop_more ms i (pos 0) below)
    ∙ ap (λ xs. earlier (pair_in_row (forms (take i rows)) (take i ms) m (form_of r)) (widths_from xs (take i ms ++ m ∷ []) (forms (drop (i + 1) rows)) (drop (i + 1) ms))) (sym behind_rows)
    ∙ ap (λ xs. earlier (pair_in_row (forms (take i rows)) (take i ms) m (form_of r)) (widths_from (forms (take (i + 1) rows)) xs (forms (drop (i + 1) rows)) (drop (i + 1) ms))) (sym behind_ms)
    ∙ ap (λ x. earlier (pair_in_row (forms (take i rows)) (take i ms) m (form_of x)) (widths_from (forms (take (i + 1) rows)) (take (i + 1) ms) (forms (drop (i + 1) rows)) (drop (i + 1) ms))) (sym e)

pub row_ends : (rows : List Row) (ms : List ℤ) (i : ℕ) (row : Row) (p : ℤ × ℤ) (whole : Option (ℤ × ℤ)) → i < length rows → length rows ≡ length ms → row ≡ get_or rows i row → Some p ≡ pair_in_row (forms (take i rows)) (take i ms) (get_or ms i (pos 0)) (form_of row)
    → widths_from (forms (take i rows)) (take i ms) (forms (drop i rows)) (drop i ms) ≡ whole → Some p ≡ whole
row_ends rows ms i row p whole h k e is before =
    ap (λ x. earlier x (widths_from (forms (take (i + 1) rows)) (take (i + 1) ms) (forms (drop (i + 1) rows)) (drop (i + 1) ms))) is ∙ sym (step_row rows ms i row h k e) ∙ before

pub row_goes : (rows : List Row) (ms : List ℤ) (i : ℕ) (row : Row) (whole : Option (ℤ × ℤ)) → i < length rows → length rows ≡ length ms → row ≡ get_or rows i row → None ≡ pair_in_row (forms (take i rows)) (take i ms) (get_or ms i (pos 0)) (form_of row)
    → widths_from (forms (take i rows)) (take i ms) (forms (drop i rows)) (drop i ms) ≡ whole → widths_from (forms (take (i + 1) rows)) (take (i + 1) ms) (forms (drop (i + 1) rows)) (drop (i + 1) ms) ≡ whole
row_goes rows ms i row whole h k e is before =
    ap (λ x. earlier x (widths_from (forms (take (i + 1) rows)) (take (i + 1) ms) (forms (drop (i + 1) rows)) (drop (i + 1) ms))) is ∙ sym (step_row rows ms i row h k e) ∙ before

-- the rows up to a place and one more are narrow
pub narrow_up_to : (rows : List Row) (ms : List ℤ) (i : ℕ) (row : Row) → i < length rows → length rows ≡ length ms → row ≡ get_or rows i row → All IsAscending (forms rows) → AreNarrow (forms (take i rows)) (take i ms)
    → None ≡ pair_in_row (forms (take i rows)) (take i ms) (get_or ms i (pos 0)) (form_of row) → AreNarrow (forms (take (i + 1) rows)) (take (i + 1) ms)
narrow_up_to rows ms i row h k e up narrow is =
    let below : i < length ms = omega arith in
    let m = get_or ms i (pos 0) in
    let behind_rows : forms (take (i + 1) rows) ≡ forms (take i rows) ++ form_of row ∷ [] = map_more form_of rows i row h ∙ ap (λ x. forms (take i rows) ++ form_of x ∷ []) (sym e) in
    let behind_ms : take (i + 1) ms ≡ take i ms ++ m ∷ [] = take_more ms i (pos 0) below in
    let sizes : length (forms (take i rows)) ≡ length (take i ms) = omega (arith, length-map (take i rows) form_of, length-take i rows, length-take i ms) in
    let P : Form → Type 0 = IsAscending in
    let ascending : IsAscending (form_of row) = subst P (sym (form_at rows i row h e)) (up i (form_of row) (omega (arith, forms_same rows))) in
    let Q : List Form → Type 0 = λ fs. AreNarrow fs (take (i + 1) ms) in
    let R : List ℤ → Type 0 = λ xs. AreNarrow (forms (take i rows) ++ form_of row ∷ []) xs in
    subst Q (sym behind_rows) (subst R (sym behind_ms) (row_narrow (forms (take i rows)) (take i ms) m (form_of row) sizes ascending narrow (sym is)))

pub ascending_up_to : (rows : List Row) (i : ℕ) → All IsAscending (forms rows) → All IsAscending (forms (take i rows))
ascending_up_to rows i up = let P : List Form → Type 0 = All IsAscending in subst P (take-map form_of i rows) (All-take IsAscending i (forms rows) up)

-- a multiplier of 0 leaves all sums as they are
zero_at : (sum number : ℤ) → IsNarrow sum → pair_at (pos 0) sum number ≡ None
zero_at sum number h =
    let none : pos 0 *ℤ number ≡ pos 0 = zero-*ℤ number in
    let same : sum +ℤ (pos 0 *ℤ number) ≡ sum = ap (λ z. sum +ℤ z) none ∙ omega (arith, ints) in
    let low : nat_le (unsigned_abs sum) (2 ^ 126) ≡ true = le-leb (unsigned_abs sum) (2 ^ 126) h in
    ap (λ z. earlier (pair_of (pos 0) number z) (pair_of sum (pos 0 *ℤ number) (sum +ℤ (pos 0 *ℤ number)))) none
    ∙ ap (pair_of sum (pos 0 *ℤ number)) same ∙ ap (λ b. if b then None else Some (sum, pos 0 *ℤ number)) low

zero_terms : (sums : ℕ → ℤ) (ts : List Term) → ((v : ℕ) → IsNarrow (sums v)) → pair_in_terms (pos 0) sums ts ≡ None
zero_terms sums [] h = refl
zero_terms sums (t ∷ ts) h = ap (λ p. earlier p (pair_in_terms (pos 0) sums ts)) (zero_at (sums t.0) t.1 (h t.0)) ∙ zero_terms sums ts h

pub zero_row : (before : List Form) (done : List ℤ) (m : ℤ) (row : Form) → AreNarrow before done → m ≡ pos 0 → None ≡ pair_in_row before done m row
zero_row before done m row narrow e =
    let sums : ℕ → ℤ = λ v. combined (coefficient v) before done in
    let total = combined (λ (r : Form). r.constant) before done in
    sym (ap (λ k. pair_in_row before done k row) e
    ∙ ap (λ p. earlier p (pair_at (pos 0) total row.constant)) (zero_terms sums row.terms (λ v. whole_narrow (products (coefficient v) before done) (narrow.coefficients v)))
    ∙ zero_at total row.constant (whole_narrow (products (λ (r : Form). r.constant) before done) narrow.constants))
