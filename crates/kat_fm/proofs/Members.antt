-- Which rows a round has: those that stay, those that are combined, and what covers those that are left out.
use Rattle.std.proofs.Common.{◌≡◌, ℕ, zero, suc, ◌*◌, ◌/◌, ◌<◌, ℤ, pos, ◌+ℤ◌, ◌*ℤ◌, ◌≤ℤ◌, ◌<ℤ◌, Bool, true, false, if◌then◌else◌, unsigned_abs, List, [], ◌∷◌, ◌++◌, Contains, map, filter, get_or, ◌⊎◌, inl, inr, ⊎_elim, refl, sym, ap, ◌∙◌, subst, arith}
use Rattle.std.specs.Prelude.{int_lt, int_le, ◌||◌}
use Rattle.std.proofs.Math.IntN.{*ℤ-zero}
use Rattle.std.proofs.lemmas.Int.{ints}
use Rattle.std.proofs.lemmas.List.Elements.{All-contains, filter_passes, Contains-append_left, Contains-append_right, Contains-append_cases}
use Rattle.kat_fm.specs.Limits.{Checked, and_then, checked_map}
use Rattle.kat_fm.specs.Limits.Checked.{fits}
use Rattle.kat_fm.specs.Combinations.{Combination, at, gcd, combination_of}
use Rattle.kat_fm.specs.Comparisons.{are_same, covers, exceeds}
use Rattle.kat_fm.specs.Eliminations.{is_plus, is_minus, is_rest, couples, next_rows}
use Rattle.kat_fm.proofs.Spreads.{same_lists}
use Rattle.kat_fm.proofs.Combinations.{and_then_fits, plain, IsWeighed, weighed_rows_fits}
use Rattle.kat_fm.proofs.Certificates.{in_nothing, cases_cons, behind as further, filter_within, couples_within, and_parts}
use Rattle.kat_fm.proofs.Fractions.{gcd_parts, cancels, plus_is, minus_is}

-- an element that passes a test
pub filter_has : (test : Combination → Bool) (rows : List Combination) (x : Combination) → Contains rows x → test x ≡ true → Contains (filter test rows) x
filter_has test [] x h e = absurd (in_nothing x h)
filter_has test (r ∷ rs) x h e = ⊎_elim
    (λ (same : r ≡ x). let kept : test r ≡ true = ap test same ∙ e in subst (λ (b : Bool). Contains (if b then r ∷ filter test rs else filter test rs) x) (sym kept) (0, omega arith, same))
    (λ (k : Contains rs x). added (test r) (filter_has test rs x k e))
    (cases_cons r x rs h)
  where
    added : (b : Bool) → Contains (filter test rs) x → Contains (if b then r ∷ filter test rs else filter test rs) x
    added true k = further r x (filter test rs) k
    added false k = k

pub filter_true : (test : Combination → Bool) (rows : List Combination) (x : Combination) → Contains (filter test rows) x → test x ≡ true
filter_true test rows x h = All-contains (λ y. test y ≡ true) (filter test rows) x (filter_passes test rows) h

map_has : (p : Combination) (ns : List Combination) (n : Combination) → Contains ns n → Contains {X = Combination × Combination} (map (λ m. (p, m)) ns) (p, n)
map_has p [] n h = absurd (in_nothing n h)
map_has p (m ∷ ns) n h = ⊎_elim
    (λ (same : m ≡ n). let is : ◌≡◌ {A = Combination × Combination} (p, m) (p, n) = λ i. (p, same i) in (0, omega arith, is))
    (λ (k : Contains ns n). further (p, m) (p, n) (map (λ x. (p, x)) ns) (map_has p ns n k))
    (cases_cons m n ns h)

couples_has : (ps ns : List Combination) (p n : Combination) → Contains ps p → Contains ns n → Contains {X = Combination × Combination} (couples ps ns) (p, n)
couples_has [] ns p n h k = absurd (in_nothing p h)
couples_has (q ∷ ps) ns p n h k = ⊎_elim
    (λ (same : q ≡ p). let P : Combination → Type 0 = λ x. Contains {X = Combination × Combination} (map (λ m. (x, m)) ns ++ couples ps ns) (p, n) in
    subst P (sym same) (Contains-append_left (map (λ m. (p, m)) ns) (couples ps ns) (p, n) (map_has p ns n k)))
    (λ (j : Contains ps p). Contains-append_right (map (λ m. (q, m)) ns) (couples ps ns) (p, n) (couples_has ps ns p n j k))
    (cases_cons q p ps h)

-- what a checked list comes from, and what comes of it
pub record ComesOf {A B : Type 0} (f : A → Checked B) (xs : List A) (y : B) : Type 0 where
  pub of : A
  pub among : Contains xs of
  pub is : f of ≡ fits y

fits_same : {A : Type 0} (a b : A) → fits a ≡ fits b → a ≡ b
fits_same a b e = cc

checked_from : {A B : Type 0} (f : A → Checked B) (xs : List A) (ys : List B) (y : B) → checked_map f xs ≡ fits ys → Contains ys y → ComesOf f xs y
checked_from {A} {B} f [] ys y e h = let P : List B → Type 0 = λ zs. Contains zs y in absurd (in_nothing y (subst P (sym (fits_same [] ys e)) h))
checked_from {A} {B} f (x ∷ xs) ys y e h =
    let first = and_then_fits (f x) (λ z. and_then (checked_map f xs) (λ zs. fits (z ∷ zs))) ys e in
    let second = and_then_fits (checked_map f xs) (λ zs. fits (first.0 ∷ zs)) ys first.2 in
    let P : List B → Type 0 = λ zs. Contains zs y in
    ⊎_elim
    (λ (same : first.0 ≡ y). record { of = x; among = (0, omega arith, refl); is = first.1 ∙ ap fits same })
    (λ (k : Contains second.0 y). let rest = checked_from f xs second.0 y second.1 k in record { of = rest.of; among = further x rest.of xs rest.among; is = rest.is })
    (cases_cons first.0 y second.0 (subst P (sym (fits_same (first.0 ∷ second.0) ys second.2)) h))

pub record Makes {A B : Type 0} (f : A → Checked B) (x : A) (ys : List B) : Type 0 where
  pub made : B
  pub among : Contains ys made
  pub is : f x ≡ fits made

checked_to : {A B : Type 0} (f : A → Checked B) (xs : List A) (ys : List B) (x : A) → checked_map f xs ≡ fits ys → Contains xs x → Makes f x ys
checked_to f [] ys x e h = absurd (in_nothing x h)
checked_to {A} {B} f (z ∷ xs) ys x e h =
    let first = and_then_fits (f z) (λ y. and_then (checked_map f xs) (λ zs. fits (y ∷ zs))) ys e in
    let second = and_then_fits (checked_map f xs) (λ zs. fits (first.0 ∷ zs)) ys first.2 in
    let whole = fits_same (first.0 ∷ second.0) ys second.2 in
    ⊎_elim
    (λ (same : z ≡ x). let P : List B → Type 0 = λ zs. Contains zs first.0 in record { made = first.0; among = subst P whole (0, omega arith, refl); is = ap f (sym same) ∙ first.1 })
    (λ (k : Contains xs x). let rest = checked_to f xs second.0 x second.1 k in let P : List B → Type 0 = λ zs. Contains zs rest.made in record { made = rest.made; among = subst P whole (further first.0 rest.made second.0 rest.among); is = rest.is })
    (cases_cons z x xs h)

-- the combination of a plus row and a minus row
pub record IsCombined (v : ℕ) (p n row : Combination) : Type 0 where
  pub f : ℕ
  pub g : ℕ
  pub k : ℕ
  pub first : k * f ≡ unsigned_abs (at v n)
  pub second : k * g ≡ unsigned_abs (at v p)
  pub weighed : IsWeighed f p g n row

combined_by : (v : ℕ) (p n row : Combination) → 0 < unsigned_abs (at v p) → combination_of v p n ≡ fits row → IsCombined v p n row
unfolding combination_of
combined_by v p n row above e =
    let a = unsigned_abs (at v p) in let b = unsigned_abs (at v n) in
    let parts = gcd_parts a b above in
    record { f = b / gcd a b; g = a / gcd a b; k = gcd a b; first = parts.1; second = parts.0; weighed = weighed_rows_fits (b / gcd a b) p (a / gcd a b) n row e }

plain_zero : (f : ℤ) (ps : List ℤ) (g : ℤ) (ns : List ℤ) (v : ℕ) → (f *ℤ get_or ps v (pos 0)) +ℤ (g *ℤ get_or ns v (pos 0)) ≡ pos 0 → get_or (plain f ps g ns) v (pos 0) ≡ pos 0
plain_zero f [] g ns v e = refl
plain_zero f (p ∷ ps) g [] v e = refl
plain_zero f (p ∷ ps) g (n ∷ ns) zero e = e
plain_zero f (p ∷ ps) g (n ∷ ns) (suc v) e = plain_zero f ps g ns v e

pub plus_above : (z : ℤ) → int_lt (pos 0) z ≡ true → 0 < unsigned_abs z
plus_above z e = let is = plus_is z e in grind (arith, ints)

pub minus_above : (z : ℤ) → int_lt z (pos 0) ≡ true → 0 < unsigned_abs z
minus_above z e = let is = minus_is z e in grind (arith, ints)

-- the variable is left out, and so is each that neither row has
pub left_out : (v : ℕ) (p n row : Combination) → is_plus v p ≡ true → is_minus v n ≡ true → IsCombined v p n row → at v row ≡ pos 0
left_out v p n row plus minus is =
    let a = unsigned_abs (at v p) in let b = unsigned_abs (at v n) in
    let none : (pos is.f *ℤ at v p) +ℤ (pos is.g *ℤ at v n) ≡ pos 0 =
    ap (λ x. (pos is.f *ℤ x) +ℤ (pos is.g *ℤ at v n)) (plus_is (at v p) plus) ∙ ap (λ y. (pos is.f *ℤ pos a) +ℤ (pos is.g *ℤ y)) (minus_is (at v n) minus)
    ∙ cancels is.k is.g is.f a b is.second is.first in
    ap (λ cs. get_or cs v (pos 0)) is.weighed.coefficients ∙ plain_zero (pos is.f) p.coefficients (pos is.g) n.coefficients v none

pub stays_out : (u v : ℕ) (p n row : Combination) → at u p ≡ pos 0 → at u n ≡ pos 0 → IsCombined v p n row → at u row ≡ pos 0
stays_out u v p n row a b is =
    let none : (pos is.f *ℤ at u p) +ℤ (pos is.g *ℤ at u n) ≡ pos 0 = ap (λ x. (pos is.f *ℤ x) +ℤ (pos is.g *ℤ at u n)) a ∙ ap (λ y. (pos is.f *ℤ pos 0) +ℤ (pos is.g *ℤ y)) b ∙ zeros (pos is.f) (pos is.g) in
    ap (λ cs. get_or cs u (pos 0)) is.weighed.coefficients ∙ plain_zero (pos is.f) p.coefficients (pos is.g) n.coefficients u none
  where
    zeros : (f g : ℤ) → (f *ℤ pos 0) +ℤ (g *ℤ pos 0) ≡ pos 0
    zeros f g = omega (arith, ints, *ℤ-zero f, *ℤ-zero g)

-- the rows of the next round
pub record IsNew (v : ℕ) (rows : List Combination) (row : Combination) : Type 0 where
  pub plus : Combination
  pub minus : Combination
  pub plus_among : Contains rows plus
  pub minus_among : Contains rows minus
  pub plus_test : is_plus v plus ≡ true
  pub minus_test : is_minus v minus ≡ true
  pub combined : IsCombined v plus minus row

abbrev pub combined_pair : ℕ → Combination × Combination → Checked Combination
combined_pair v x = combination_of v x.0 x.1

pub next_from : (v : ℕ) (rows new : List Combination) (row : Combination) → next_rows v rows ≡ fits new → Contains new row → (Contains rows row × (is_rest v row ≡ true)) ⊎ IsNew v rows row
next_from v rows new row e h =
    let ps = filter (is_plus v) rows in let ns = filter (is_minus v) rows in let rest = filter (is_rest v) rows in
    let first = and_then_fits (checked_map (combined_pair v) (couples ps ns)) (λ more. fits (rest ++ more)) new e in
    let P : List Combination → Type 0 = λ xs. Contains xs row in
    ⊎_elim
    (λ (k : Contains rest row). inl (filter_within (is_rest v) rows row k, filter_true (is_rest v) rows row k))
    (λ (k : Contains first.0 row).
    let from = checked_from (combined_pair v) (couples ps ns) first.0 row first.1 k in
    let both = couples_within ps ns from.of from.among in
    let plus_test = filter_true (is_plus v) rows from.of.0 both.0 in
    inr (record {
      plus = from.of.0;
      minus = from.of.1;
      plus_among = filter_within (is_plus v) rows from.of.0 both.0;
      minus_among = filter_within (is_minus v) rows from.of.1 both.1;
      plus_test = plus_test;
      minus_test = filter_true (is_minus v) rows from.of.1 both.1;
      combined = combined_by v from.of.0 from.of.1 row (plus_above (at v from.of.0) plus_test) from.is;
    }))
    (Contains-append_cases rest first.0 row (subst P (sym (fits_same (rest ++ first.0) new first.2)) h))

pub next_rest : (v : ℕ) (rows new : List Combination) (row : Combination) → next_rows v rows ≡ fits new → Contains rows row → is_rest v row ≡ true → Contains new row
next_rest v rows new row e h t =
    let ps = filter (is_plus v) rows in let ns = filter (is_minus v) rows in let rest = filter (is_rest v) rows in
    let first = and_then_fits (checked_map (combined_pair v) (couples ps ns)) (λ more. fits (rest ++ more)) new e in
    let P : List Combination → Type 0 = λ xs. Contains xs row in
    subst P (fits_same (rest ++ first.0) new first.2) (Contains-append_left rest first.0 row (filter_has (is_rest v) rows row h t))

pub record IsPaired (v : ℕ) (p n : Combination) (new : List Combination) : Type 0 where
  pub row : Combination
  pub among : Contains new row
  pub combined : IsCombined v p n row

pub next_pairs : (v : ℕ) (rows new : List Combination) (p n : Combination) → next_rows v rows ≡ fits new → Contains (filter (is_plus v) rows) p → Contains (filter (is_minus v) rows) n → IsPaired v p n new
next_pairs v rows new p n e h k =
    let ps = filter (is_plus v) rows in let ns = filter (is_minus v) rows in let rest = filter (is_rest v) rows in
    let first = and_then_fits (checked_map (combined_pair v) (couples ps ns)) (λ more. fits (rest ++ more)) new e in
    let made = checked_to (combined_pair v) (couples ps ns) first.0 (p, n) first.1 (couples_has ps ns p n h k) in
    let P : List Combination → Type 0 = λ xs. Contains xs made.made in
    record {
      row = made.made;
      among = subst P (fits_same (rest ++ first.0) new first.2) (Contains-append_right rest first.0 made.made made.among);
      combined = combined_by v p n made.made (plus_above (at v p) (filter_true (is_plus v) rows p h)) made.is;
    }

-- the rows that step 2 leaves out are covered
pub record Covers (other row : Combination) : Type 0 where
  pub same : other.coefficients ≡ row.coefficients
  pub most : row.constant ≤ℤ other.constant

most_from : (x y : ℤ) → int_le x y ≡ true → x ≤ℤ y
most_from x y e = grind (arith, ints)

less_from : (x y : ℤ) → int_lt x y ≡ true → x <ℤ y
less_from x y e = grind (arith, ints)

pub covers_is : (other row : Combination) → covers other row ≡ true → Covers other row
covers_is other row e =
    let parts = and_parts (are_same other.coefficients row.coefficients) (int_le row.constant other.constant) e in
    record { same = same_lists other.coefficients row.coefficients parts.0; most = most_from row.constant other.constant parts.1 }

pub covers_trans : (a b c : Combination) → Covers a b → Covers b c → Covers a c
covers_trans a b c h k = record { same = h.same ∙ k.same; most = let x = h.most in let y = k.most in omega (arith, ints, x, y) }

pub record CoveredIn (rows : List Combination) (row : Combination) : Type 0 where
  pub other : Combination
  pub among : Contains rows other
  pub covers : Covers other row

pub or_cases : (a b : Bool) → (a || b) ≡ true → (a ≡ true) ⊎ (b ≡ true)
or_cases true b e = inl refl
or_cases false b e = inr e

pub exceeds_is : (other row : Combination) → exceeds other row ≡ true → Covers other row × (row.constant <ℤ other.constant)
exceeds_is other row e =
    let parts = and_parts (are_same other.coefficients row.coefficients) (int_lt row.constant other.constant) e in
    let less = less_from row.constant other.constant parts.1 in
    (record { same = same_lists other.coefficients row.coefficients parts.0; most = omega (arith, ints, less) }, less)
