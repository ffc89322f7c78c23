-- A list of numbers and its entries say the same.
use Rattle.std.proofs.Common.{◌≡◌, ◌≢◌, ℕ, zero, suc, ◌+◌, ◌<◌, ◌≤◌, ℤ, pos, Bool, true, false, if◌then◌else◌, List, [], ◌∷◌, ◌++◌, All, length, map, set, replicate, take, get_or, sym, ap, ◌∙◌, subst, refl, ◌⊎◌, ⊎_elim, arith}
use Rattle.std.specs.Prelude.{◌==◌, ◌&&◌}
use Rattle.std.specs.List.{list_all}
use Rattle.std.specs.Ordering.{int_eq}
use Rattle.std.proofs.lemmas.Int.{ints}
use Rattle.std.proofs.lemmas.Bool.{false≢true, cases_lt, cases_eq}
use Rattle.std.proofs.lemmas.List.{take_more, length-map, length-set, get_or_past, get_or-set_same, get_or-set_other, ext_get_or}
use Rattle.std.proofs.lemmas.List.Elements.{All-nil, All-cons, All-head, All-tail, All-weaker}
use Rattle.kat_linear.specs.Rows.{Term, AreAscending, coefficient_in}
use Rattle.kat_linear.proofs.Columns.{coefficient_below}
use Rattle.kat_fm.specs.Combinations.{counted}
use Rattle.kat_fm.specs.Comparisons.{is_zero, are_same}
use Rattle.kat_fm.specs.Entries.{AreEntries, numbers_at, entries_from, same_entries}
use Rattle.kat_fm.proofs.EntryPlaces.{first_at, others_at, past_all, pushed_apart, pushed_here}

pub is_zero_at : (z : ℤ) → z ≡ pos 0 → is_zero z ≡ true
is_zero_at z h = grind (arith, ints)

is_other : (z : ℤ) → z ≢ pos 0 → is_zero z ≡ false
is_other z h = other (is_zero z) refl
  where
    other : (b : Bool) → is_zero z ≡ b → is_zero z ≡ false
    other false e = e
    other true e = absurd (h (grind (arith, ints)))

from_next : (place : ℕ) (e : Term) (es : List Term) → AreAscending (e ∷ es) → e.0 ≡ place → All (λ (u : Term). suc place ≤ u.0) es
from_next place e es h same = All-weaker (λ (u : Term). e.0 < u.0) (λ (u : Term). suc place ≤ u.0) (λ u l. omega arith) es h.0

-- the entries are those of the numbers that they stand for
pub back_from : (place n : ℕ) (es : List Term) (f : ℕ → ℤ) → AreAscending es → All (λ (u : Term). place ≤ u.0) es → All (λ (u : Term). u.0 < place + n) es → All (λ (u : Term). u.1 ≢ pos 0) es
    → ((w : ℕ) → place ≤ w → f w ≡ coefficient_in es w) → entries_from place (map f (counted place n)) ≡ es
back_from place zero [] f h low high some is = refl
back_from place zero (e ∷ es) f h low high some is =
    let a : place ≤ e.0 = All-head (λ (u : Term). place ≤ u.0) e es low in
    let b : e.0 < place + 0 = All-head (λ (u : Term). u.0 < place + 0) e es high in
    absurd (omega arith)
back_from place (suc n) [] f h low high some is =
    let none : is_zero (f place) ≡ true = is_zero_at (f place) (is place (omega arith)) in
    rw none (back_from (suc place) n [] f h (All-nil (λ (u : Term). suc place ≤ u.0)) (All-nil (λ (u : Term). u.0 < suc place + n)) some (λ w l. is w (omega arith)))
back_from place (suc n) (e ∷ es) f h low high some is = ⊎_elim
    (λ (same : e.0 ≡ place).
    let here : f place ≡ e.1 = is place (omega arith) ∙ ap (coefficient_in (e ∷ es)) (sym same) ∙ first_at e es h in
    let other : is_zero (f place) ≡ false = is_other (f place) (λ k. All-head (λ (u : Term). u.1 ≢ pos 0) e es some (sym here ∙ k)) in
    let rest : entries_from (suc place) (map f (counted (suc place) n)) ≡ es = back_from (suc place) n es f h.1 (from_next place e es h same)
    (All-weaker (λ (u : Term). u.0 < place + suc n) (λ (u : Term). u.0 < suc place + n) (λ u l. omega arith) es (All-tail (λ (u : Term). u.0 < place + suc n) e es high))
    (All-tail (λ (u : Term). u.1 ≢ pos 0) e es some) (λ w l. is w (omega arith) ∙ others_at e es w (λ k. omega arith)) in
    let first : ◌≡◌ {A = Term} (place, f place) e = λ i. (sym same i, here i) in
    rw (other, rest) (ap (λ x. x ∷ es) first))
    (λ (apart : e.0 ≢ place).
    let a : place ≤ e.0 = All-head (λ (u : Term). place ≤ u.0) e es low in
    let above : All (λ (u : Term). suc place ≤ u.0) (e ∷ es) = All-cons (λ (u : Term). suc place ≤ u.0) e es (omega arith) (All-weaker (λ (u : Term). e.0 < u.0) (λ (u : Term). suc place ≤ u.0) (λ u l. omega arith) es h.0) in
    let none : is_zero (f place) ≡ true = is_zero_at (f place) (is place (omega arith) ∙ coefficient_below (e ∷ es) place above) in
    rw none (back_from (suc place) n (e ∷ es) f h above (All-weaker (λ (u : Term). u.0 < place + suc n) (λ (u : Term). u.0 < suc place + n) (λ u l. omega arith) (e ∷ es) high) some (λ w l. is w (omega arith))))
    (cases_eq e.0 place)

pub back : (count : ℕ) (es : List Term) → AreEntries count es → entries_from 0 (numbers_at count es) ≡ es
back count es h =
    back_from 0 count es (coefficient_in es) h.ascending (λ i d l. omega arith) (All-weaker (λ (u : Term). u.0 < count) (λ (u : Term). u.0 < 0 + count) (λ u l. omega arith) es h.below) h.not_zero (λ w l. refl)

-- the number at a place
length_counted : (from n : ℕ) → length (counted from n) ≡ n
length_counted from zero = refl
length_counted from (suc n) = ap suc (length_counted (suc from) n)

pub length_numbers : (count : ℕ) (es : List Term) → length (numbers_at count es) ≡ count
length_numbers count es = length-map (counted 0 count) (coefficient_in es) ∙ length_counted 0 count

counted_at : (from n k : ℕ) (f : ℕ → ℤ) → k < n → get_or (map f (counted from n)) k (pos 0) ≡ f (from + k)
counted_at from zero k f h = absurd (omega arith)
counted_at from (suc n) zero f h = let e : from + 0 ≡ from = omega arith in ap f (sym e)
counted_at from (suc n) (suc k) f h = let e : suc from + k ≡ from + suc k = omega arith in counted_at (suc from) n k f (omega arith) ∙ ap f e

pub number_at : (count : ℕ) (es : List Term) (v : ℕ) → All (λ (e : Term). e.0 < count) es → get_or (numbers_at count es) v (pos 0) ≡ coefficient_in es v
number_at count es v h = ⊎_elim
    (λ (low : v < count). let e : 0 + v ≡ v = omega arith in counted_at 0 count v (coefficient_in es) low ∙ ap (coefficient_in es) e)
    (λ (high : count ≤ v).
    get_or_past (numbers_at count es) v (pos 0) (omega (arith, length_numbers count es)) ∙ sym (past_all es v (All-weaker (λ (e : Term). e.0 < count) (λ (e : Term). e.0 < v) (λ e l. omega arith) es h)))
    (cases_lt v count)

-- no entry, no number other than 0
no_entry : (place : ℕ) (zs : List ℤ) → entries_from place zs ≡ [] → list_all is_zero zs ≡ true
no_entry place [] e = refl
no_entry place (z ∷ zs) e = at_test (no_entry (suc place) zs) (is_zero z) refl
  where
    at_test : (entries_from (suc place) zs ≡ [] → list_all is_zero zs ≡ true) → (b : Bool) → is_zero z ≡ b → (b && list_all is_zero zs) ≡ true
    at_test rest true k = rest (sym (ap (λ (b : Bool). if b then entries_from (suc place) zs else (place, z) ∷ entries_from (suc place) zs) k) ∙ e)
    at_test rest false k = absurd (let f : (place, z) ∷ entries_from (suc place) zs ≡ [] = sym (ap (λ (b : Bool). if b then entries_from (suc place) zs else (place, z) ∷ entries_from (suc place) zs) k) ∙ e in cc)

some_entry : (place : ℕ) (zs : List ℤ) (e : Term) (es : List Term) → entries_from place zs ≡ e ∷ es → list_all is_zero zs ≡ false
some_entry place [] x xs e = absurd (cc)
some_entry place (z ∷ zs) x xs e = at_test (some_entry (suc place) zs x xs) (is_zero z) refl
  where
    at_test : (entries_from (suc place) zs ≡ x ∷ xs → list_all is_zero zs ≡ false) → (b : Bool) → is_zero z ≡ b → (b && list_all is_zero zs) ≡ false
    at_test rest false k = refl
    at_test rest true k = rest (sym (ap (λ (b : Bool). if b then entries_from (suc place) zs else (place, z) ∷ entries_from (suc place) zs) k) ∙ e)

pub are_zero_if : (count : ℕ) (es : List Term) (n : ℕ) (b : Bool) → AreEntries count es → n ≡ length es → b ≡ (n == 0) → b ≡ list_all is_zero (numbers_at count es)
are_zero_if count [] n b h many e = e ∙ ap (λ k. k == 0) many ∙ sym (no_entry 0 (numbers_at count []) (back count [] h))
are_zero_if count (x ∷ es) n b h many e =
    let some : (n == 0) ≡ false = none n (length es) many in
    e ∙ some ∙ sym (some_entry 0 (numbers_at count (x ∷ es)) x es (back count (x ∷ es) h))
  where
    none : (k l : ℕ) → k ≡ suc l → (k == 0) ≡ false
    none k l e = grind arith

-- lists with the same entries are the same
int_same : (z : ℤ) → int_eq z z ≡ true
int_same z = grind (arith, ints)

pub same_itself : (zs : List ℤ) → are_same zs zs ≡ true
same_itself [] = refl
same_itself (z ∷ zs) = rw (int_same z) (same_itself zs)

number_same : (n : ℕ) → (n == n) ≡ true
number_same n = grind arith

entries_itself : (es : List Term) → same_entries es es ≡ true
entries_itself [] = refl
entries_itself (e ∷ es) = rw (number_same e.0, int_same e.1) (entries_itself es)

number_from : (a b : ℕ) → (a == b) ≡ true → a ≡ b
number_from a b e = grind arith

int_from : (a b : ℤ) → int_eq a b ≡ true → a ≡ b
int_from a b e = grind (arith, ints)

both : (a b : Bool) → (a && b) ≡ true → (a ≡ true) × (b ≡ true)
both true b e = (refl, e)
both false b e = absurd (false≢true e)

pub same_from : (es ds : List Term) → same_entries es ds ≡ true → es ≡ ds
same_from [] [] e = refl
same_from [] (d ∷ ds) e = absurd (false≢true e)
same_from (x ∷ es) [] e = absurd (false≢true e)
same_from (x ∷ es) (d ∷ ds) e =
    let first = both (x.0 == d.0) (int_eq x.1 d.1 && same_entries es ds) e in
    let second = both (int_eq x.1 d.1) (same_entries es ds) first.1 in
    let here : ◌≡◌ {A = Term} x d = λ i. (number_from x.0 d.0 first.0 i, int_from x.1 d.1 second.0 i) in
    ap (λ y. y ∷ es) here ∙ ap (λ ys. d ∷ ys) (same_from es ds second.1)

pub same_lists : (cs bs : List ℤ) → are_same cs bs ≡ true → cs ≡ bs
same_lists [] [] e = refl
same_lists [] (b ∷ bs) e = absurd (false≢true e)
same_lists (a ∷ cs) [] e = absurd (false≢true e)
same_lists (a ∷ cs) (b ∷ bs) e =
    let parts = both (int_eq a b) (are_same cs bs) e in
    ap (λ x. x ∷ cs) (int_from a b parts.0) ∙ ap (λ xs. b ∷ xs) (same_lists cs bs parts.1)

same_of : (count : ℕ) (es ds : List Term) → AreEntries count es → AreEntries count ds → same_entries es ds ≡ are_same (numbers_at count es) (numbers_at count ds)
same_of count es ds h k = by_cases (same_entries es ds) (are_same (numbers_at count es) (numbers_at count ds)) refl refl
  where
    by_cases : (a b : Bool) → same_entries es ds ≡ a → are_same (numbers_at count es) (numbers_at count ds) ≡ b → a ≡ b
    by_cases true true e f = refl
    by_cases false false e f = refl
    by_cases true false e f = sym (same_itself (numbers_at count es)) ∙ ap (λ xs. are_same (numbers_at count es) (numbers_at count xs)) (same_from es ds e) ∙ f
    by_cases false true e f =
        let one : es ≡ ds = sym (back count es h) ∙ ap (entries_from 0) (same_lists (numbers_at count es) (numbers_at count ds) f) ∙ back count ds k in
        sym e ∙ ap (λ xs. same_entries es xs) (sym one) ∙ entries_itself es

pub same_if : (count other : ℕ) (es ds : List Term) → count ≡ other → AreEntries count es → AreEntries other ds → same_entries es ds ≡ are_same (numbers_at count es) (numbers_at other ds)
same_if count other es ds e h k =
    let P : ℕ → Type 0 = λ n. AreEntries n ds in
    same_of count es ds h (subst P (sym e) k) ∙ ap (λ n. are_same (numbers_at count es) (numbers_at n ds)) e

-- lists of different lengths are not the same
pub unlike : (a b : List ℤ) → length a ≢ length b → false ≡ are_same a b
unlike [] [] h = absurd (h refl)
unlike [] (b ∷ bs) h = refl
unlike (a ∷ cs) [] h = refl
unlike (a ∷ cs) (b ∷ bs) h = apart (int_eq a b) (unlike cs bs (λ e. h (ap suc e)))
  where
    apart : (t : Bool) → false ≡ are_same cs bs → false ≡ t && are_same cs bs
    apart true e = e
    apart false e = refl

pub unlike_numbers : (count other : ℕ) (es ds : List Term) → count ≢ other → (count == other) ≡ are_same (numbers_at count es) (numbers_at other ds)
unlike_numbers count other es ds h =
    let apart : (count == other) ≡ false = grind arith in
    apart ∙ unlike (numbers_at count es) (numbers_at other ds) (λ e. h (sym (length_numbers count es) ∙ e ∙ length_numbers other ds))

-- lists of different lengths
pub unlike_entries : (a b : List Term) → length a ≢ length b → false ≡ same_entries a b
unlike_entries [] [] h = absurd (h refl)
unlike_entries [] (y ∷ b) h = refl
unlike_entries (x ∷ a) [] h = refl
unlike_entries (x ∷ a) (y ∷ b) h = apart (x.0 == y.0) (int_eq x.1 y.1) (unlike_entries a b (λ e. h (ap suc e)))
  where
    apart : (s t : Bool) → false ≡ same_entries a b → false ≡ (s && (t && same_entries a b))
    apart true true e = e
    apart true false e = refl
    apart false t e = refl

-- one number more
pub number_below : (count : ℕ) (es : List Term) (k : ℕ) → k < count → get_or (numbers_at count es) k (pos 0) ≡ coefficient_in es k
number_below count es k h = let e : 0 + k ≡ k = omega arith in counted_at 0 count k (coefficient_in es) h ∙ ap (coefficient_in es) e

pub set_entry : (count : ℕ) (es : List Term) (e : Term) → All (λ (x : Term). x.0 < e.0) es → numbers_at count (es ++ e ∷ []) ≡ set (numbers_at count es) e.0 e.1
set_entry count es e h =
    let many : length (numbers_at count (es ++ e ∷ [])) ≡ count = length_numbers count (es ++ e ∷ []) in
    let old_many : length (numbers_at count es) ≡ count = length_numbers count es in
    ext_get_or (pos 0) (numbers_at count (es ++ e ∷ [])) (set (numbers_at count es) e.0 e.1) (many ∙ sym (length-set (numbers_at count es) e.0 e.1 ∙ old_many)) (λ k below.
    let low : k < count = omega (arith, many) in
    number_below count (es ++ e ∷ []) k low ∙ ⊎_elim
    (λ (same : e.0 ≡ k).
    ap (coefficient_in (es ++ e ∷ [])) (sym same) ∙ pushed_here es e h ∙ sym (ap (get_or (set (numbers_at count es) e.0 e.1) k) refl ∙ ap (λ n. get_or (set (numbers_at count es) e.0 e.1) n (pos 0)) (sym same) ∙ get_or-set_same (numbers_at count es) e.0 e.1 (pos 0) (omega (arith, old_many))))
    (λ (apart : e.0 ≢ k). pushed_apart es e k apart ∙ sym (get_or-set_other (numbers_at count es) e.0 k e.1 (pos 0) (λ j. apart (sym j)) ∙ number_below count es k low))
    (cases_eq e.0 k))

no_numbers : (from n : ℕ) → map (λ place. coefficient_in [] place) (counted from n) ≡ replicate n (pos 0)
no_numbers from zero = refl
no_numbers from (suc n) = ap (λ xs. pos 0 ∷ xs) (no_numbers (suc from) n)

pub nothing_spread : (count : ℕ) → numbers_at count [] ≡ replicate count (pos 0)
nothing_spread count = no_numbers 0 count

-- the entries before one are at lower places
pub all_before : (es : List Term) (i : ℕ) (d : Term) → AreAscending es → i < length es → All (λ (x : Term). x.0 < (get_or es i d).0) (take i es)
all_before [] i d h k = absurd (omega arith)
all_before (e ∷ es) zero d h k = All-nil (λ (x : Term). x.0 < e.0)
all_before (e ∷ es) (suc i) d h k =
    All-cons (λ (x : Term). x.0 < (get_or es i d).0) e (take i es) (h.0 i d (omega arith)) (all_before es i d h.1 (omega arith))

pub spread_more : (count : ℕ) (es : List Term) (i : ℕ) (d : Term) (items new : List ℤ) → AreAscending es → i < length es → items ≡ numbers_at count (take i es) → new ≡ set items (get_or es i d).0 (get_or es i d).1 → new ≡ numbers_at count (take (i + 1) es)
spread_more count es i d items new h below is made =
    made ∙ ap (λ xs. set xs (get_or es i d).0 (get_or es i d).1) is ∙ sym (ap (numbers_at count) (take_more es i d below) ∙ set_entry count (take i es) (get_or es i d) (all_before es i d h below))
