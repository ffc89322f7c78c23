-- Lookups and sums that the code makes.
use Rattle.std.proofs.Common.{◌≡◌, ◌≢◌, ℕ, zero, suc, ◌+◌, ◌<◌, ℤ, pos, ◌+ℤ◌, ◌*ℤ◌, List, [], ◌∷◌, All, length, get_or, take, drop, refl, sym, ap, ◌∙◌, subst, inl, inr, below_more, add-one, arith}
use Rattle.std.proofs.Math.IntN.{+ℤ_idl}
use Rattle.std.proofs.lemmas.Int.{ints}
use Rattle.std.proofs.lemmas.List.{length-map, get_or-map, drop_more}
use Rattle.std.proofs.lemmas.List.Elements.{All-head, All-tail}
use Rattle.kat_linear.specs.declared.Row.{Row}
use Rattle.kat_linear.specs.Rows.{Form, form_of, forms, Term, AreAscending, coefficient_in}
use Rattle.kat_linear.specs.Sums.{int_sum, products, IsNarrow, IsWide, GoesWide}
use Rattle.kat_linear.specs.Columns.{IsNarrowUpTo}
use Rattle.kat_linear.proofs.Totals.{part_at, part_apart}

-- what follows a term of another variable has the whole coefficient
pub coefficient_past : (ts : List Term) (i : ℕ) (d : Term) (v : ℕ) → i < length ts → (get_or ts i d).0 ≢ v → coefficient_in (drop i ts) v ≡ coefficient_in (drop (i + 1) ts) v
coefficient_past ts i d v h ne = rw (drop_more ts i d h, part_apart (get_or ts i d) v ne) (+ℤ_idl (coefficient_in (drop (i + 1) ts) v))

-- no term has a variable that is below all of them
pub coefficient_below : (ts : List Term) (v : ℕ) → All (λ (u : Term). v < u.0) ts → coefficient_in ts v ≡ pos 0
coefficient_below [] v h = refl
coefficient_below (t ∷ ts) v h =
    let above : v < t.0 = All-head (λ (u : Term). v < u.0) t ts h in
    rw (part_apart t v (λ e. omega arith), coefficient_below ts v (All-tail (λ (u : Term). v < u.0) t ts h)) refl

AreAscending-drop : (i : ℕ) (ts : List Term) → AreAscending ts → AreAscending (drop i ts)
AreAscending-drop zero ts h = h
AreAscending-drop (suc i) [] h = h
AreAscending-drop (suc i) (t ∷ ts) h = AreAscending-drop i ts h.1

-- a term of the variable has the whole coefficient of what it begins
pub coefficient_at : (ts : List Term) (i : ℕ) (d : Term) (v : ℕ) → AreAscending ts → i < length ts → (get_or ts i d).0 ≡ v → coefficient_in (drop i ts) v ≡ (get_or ts i d).1
coefficient_at ts i d v ascending h e =
    let t = get_or ts i d in
    let from : AreAscending (t ∷ drop (i + 1) ts) = subst AreAscending (drop_more ts i d h) (AreAscending-drop i ts ascending) in
    let rest : coefficient_in (drop (i + 1) ts) t.0 ≡ pos 0 = coefficient_below (drop (i + 1) ts) t.0 from.0 in
    rw (drop_more ts i d h, part_at t v e, sym e, rest) (omega (arith, ints))

pub length-products : (number : Form → ℤ) (rows : List Form) (ms : List ℤ) → length rows ≡ length ms → length (products number rows ms) ≡ length rows
length-products number [] ms e = refl
length-products number (r ∷ rs) [] e = absurd (omega arith)
length-products number (r ∷ rs) (m ∷ ms) e = ap suc (length-products number rs ms (omega arith))

pub get_or-products : (number : Form → ℤ) (rows : List Form) (ms : List ℤ) (i : ℕ) (d : Form) → length rows ≡ length ms → i < length rows → get_or (products number rows ms) i (pos 0) ≡ get_or ms i (pos 0) *ℤ number (get_or rows i d)
get_or-products number [] ms i d e h = absurd (omega arith)
get_or-products number (r ∷ rs) [] i d e h = absurd (omega arith)
get_or-products number (r ∷ rs) (m ∷ ms) zero d e h = refl
get_or-products number (r ∷ rs) (m ∷ ms) (suc i) d e h = get_or-products number rs ms i d (omega arith) (omega arith)

-- one more number in a sum
pub int_sum_more : (zs : List ℤ) (i : ℕ) → i < length zs → int_sum (take (suc i) zs) ≡ int_sum (take i zs) +ℤ get_or zs i (pos 0)
int_sum_more [] i h = absurd (omega arith)
int_sum_more (z ∷ zs) zero h = omega (arith, ints)
int_sum_more (z ∷ zs) (suc i) h = rw (int_sum_more zs i (omega arith)) (omega (arith, ints))

-- a row's wide product makes the column wide
pub wide_at_product : (number : Form → ℤ) (rows : List Form) (ms : List ℤ) (i : ℕ) (r : Form) → length rows ≡ length ms → i < length rows → r ≡ get_or rows i r → IsWide (get_or ms i (pos 0) *ℤ number r) → GoesWide (products number rows ms)
wide_at_product number rows ms i r e h is wide =
    let at : get_or (products number rows ms) i (pos 0) ≡ get_or ms i (pos 0) *ℤ number r = get_or-products number rows ms i r e h ∙ ap (λ x. get_or ms i (pos 0) *ℤ number x) (sym is) in
    (i, omega (arith, length-products number rows ms e), inl (rw at wide))

-- the sum so far with a row's product
sum_with : (number : Form → ℤ) (rows : List Form) (ms : List ℤ) (i : ℕ) (r : Form) (sum product : ℤ) → length rows ≡ length ms → i < length rows → r ≡ get_or rows i r → sum ≡ int_sum (take i (products number rows ms)) → product ≡ get_or ms i (pos 0) *ℤ number r → int_sum (take (suc i) (products number rows ms)) ≡ sum +ℤ product
sum_with number rows ms i r sum product e h is before here =
    let at : get_or (products number rows ms) i (pos 0) ≡ product = get_or-products number rows ms i r e h ∙ ap (λ x. get_or ms i (pos 0) *ℤ number x) (sym is) ∙ sym here in
    int_sum_more (products number rows ms) i (omega (arith, length-products number rows ms e)) ∙ rw (at, sym before) refl

pub wide_at_sum : (number : Form → ℤ) (rows : List Form) (ms : List ℤ) (i : ℕ) (r : Form) (sum product : ℤ) → length rows ≡ length ms → i < length rows → r ≡ get_or rows i r → sum ≡ int_sum (take i (products number rows ms)) → product ≡ get_or ms i (pos 0) *ℤ number r → IsWide (sum +ℤ product) → GoesWide (products number rows ms)
wide_at_sum number rows ms i r sum product e h is before here wide =
    (i, omega (arith, length-products number rows ms e), inr (rw (sum_with number rows ms i r sum product e h is before here) wide))

-- one more row of a column that has stayed narrow
pub narrow_more : (number : Form → ℤ) (rows : List Form) (ms : List ℤ) (i : ℕ) (r : Form) (sum product next : ℤ) → length rows ≡ length ms → i < length rows → r ≡ get_or rows i r → IsNarrowUpTo (products number rows ms) i sum → product ≡ get_or ms i (pos 0) *ℤ number r → IsNarrow product → next ≡ sum +ℤ product → IsNarrow next → IsNarrowUpTo (products number rows ms) (i + 1) next
narrow_more number rows ms i r sum product next e h is before here narrow sums total =
    let at : get_or (products number rows ms) i (pos 0) ≡ product = get_or-products number rows ms i r e h ∙ ap (λ x. get_or ms i (pos 0) *ℤ number x) (sym is) ∙ sym here in
    let whole : int_sum (take (suc i) (products number rows ms)) ≡ next = sum_with number rows ms i r sum product e h is before.0 here ∙ sym sums in
    (rw add-one (sym whole), below_more _ _ before.1 (rw at narrow, rw whole total))

-- the forms of rows, by place
pub forms_same : (rows : List Row) → length (forms rows) ≡ length rows
forms_same rows = length-map rows form_of

pub form_at : (rows : List Row) (i : ℕ) (row : Row) → i < length rows → row ≡ get_or rows i row → form_of row ≡ get_or (forms rows) i (form_of row)
form_at rows i row h is = ap form_of is ∙ sym (get_or-map form_of rows i row (form_of row) h)
