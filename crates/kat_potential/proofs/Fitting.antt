-- Arithmetic that stays within its limits, and combinations of differences.
use Rattle.std.proofs.Common.{◌≡◌, ℕ, zero, suc, ◌+◌, ◌==◌, ◌^◌, ◌<◌, ◌≤◌, ℤ, pos, ◌+ℤ◌, ◌-ℤ◌, ◌*ℤ◌, ◌≤ℤ◌, unsigned_abs, nat_le, List, [], ◌∷◌, ◌++◌, map, filter, get_or, length, Bool, true, false, if◌then◌else◌, Contains, All, ⊎_elim, refl, sym, ap, ◌∙◌, subst, arith}
use Rattle.std.specs.Prelude.{int_lt}
use Rattle.std.proofs.Math.IntN.{*ℤ_comm}
use Rattle.std.proofs.lemmas.Int.{ints}
use Rattle.std.proofs.lemmas.Bool.{leb-false, eqb-true, false≢true, cases_lt}
use Rattle.std.proofs.lemmas.List.{get_or_past, length-map}
use Rattle.std.proofs.lemmas.List.Elements.{All-nil, All-cons, All-head, All-tail, All-weaker, All-contains, Contains-append_cases}
use Rattle.kat_linear.proofs.Integers.{mul_one}
use Rattle.kat_fm.specs.Limits.{Checked, and_then, checked_product, checked_sum, checked_map, weighed, weighed_all}
use Rattle.kat_fm.specs.Limits.Checked.{fits, passes}
use Rattle.kat_fm.specs.Combinations.{Combination, at, gcd, counted, weighed_rows, combination_of}
use Rattle.kat_fm.specs.Eliminations.{is_plus, is_minus, is_rest, couples, next_rows}
use Rattle.kat_fm.proofs.Certificates.{behind as further, filter_within, couples_within}
use Rattle.kat_fm.proofs.GivenRows.{combined}
use Rattle.kat_fm.proofs.Members.{filter_true}
use Rattle.kat_potential.specs.Differences.{unit}

-- ---- what fits has the property
abbrev pub Holds : {A : Type 0} → (A → Type 0) → Checked A → Type 0
Holds P (fits a) = P a
Holds P (passes left right) = ⊥

pub holds_then : {A B : Type 0} (P : A → Type 0) (Q : B → Type 0) (c : Checked A) (f : A → Checked B) → Holds P c → ((a : A) → P a → Holds Q (f a)) → Holds Q (and_then c f)
holds_then P Q (fits a) f h on = on a h
holds_then P Q (passes left right) f h on = absurd h

pub holds_weaker : {A : Type 0} (P Q : A → Type 0) (c : Checked A) → Holds P c → ((a : A) → P a → Q a) → Holds Q c
holds_weaker P Q (fits a) h on = on a h
holds_weaker P Q (passes left right) h on = absurd h

within_case : (b : Bool) (limit : ℕ) (left right y z : ℤ) → nat_le (unsigned_abs y) limit ≡ b → y ≡ z → unsigned_abs z ≤ limit → Holds (λ (x : ℤ). x ≡ z) (if b then fits y else passes left right)
within_case true limit left right y z is e small = e
within_case false limit left right y z is e small = absurd (let more = leb-false (unsigned_abs y) limit is in let same : unsigned_abs y ≡ unsigned_abs z = ap unsigned_abs e in omega (arith, more, small, same))

pub product_is : (limit : ℕ) (a b z : ℤ) → a *ℤ b ≡ z → unsigned_abs z ≤ limit → Holds (λ (x : ℤ). x ≡ z) (checked_product limit a b)
product_is limit a b z e small = within_case (nat_le (unsigned_abs (a *ℤ b)) limit) limit a b (a *ℤ b) z refl e small

pub sum_is : (limit : ℕ) (a b z : ℤ) → a +ℤ b ≡ z → unsigned_abs z ≤ limit → Holds (λ (x : ℤ). x ≡ z) (checked_sum limit a b)
sum_is limit a b z e small = within_case (nat_le (unsigned_abs (a +ℤ b)) limit) limit a b (a +ℤ b) z refl e small

pub one_times : (a : ℤ) → pos 1 *ℤ a ≡ a
one_times a = *ℤ_comm (pos 1) a ∙ mul_one a

-- the sum of two numbers, each taken once
weighed_ones : (limit : ℕ) (p n : ℤ) → unsigned_abs p ≤ limit → unsigned_abs n ≤ limit → unsigned_abs (p +ℤ n) ≤ limit → Holds (λ (x : ℤ). x ≡ p +ℤ n) (weighed limit (pos 1) p (pos 1) n)
weighed_ones limit p n a b c =
    holds_then (λ (x : ℤ). x ≡ p) (λ (z : ℤ). z ≡ p +ℤ n) (checked_product limit (pos 1) p) (λ x. and_then (checked_product limit (pos 1) n) (λ y. checked_sum limit x y)) (product_is limit (pos 1) p p (one_times p) a)
    (λ x e. holds_then (λ (y : ℤ). y ≡ n) (λ (z : ℤ). z ≡ p +ℤ n) (checked_product limit (pos 1) n) (λ y. checked_sum limit x y) (product_is limit (pos 1) n n (one_times n) b)
    (λ y k. sum_is limit x y (p +ℤ n) (ap (λ (u : ℤ). u +ℤ y) e ∙ ap (λ (u : ℤ). p +ℤ u) k) c))

abs_sum : (a b : ℤ) (m n : ℕ) → unsigned_abs a ≤ m → unsigned_abs b ≤ n → unsigned_abs (a +ℤ b) ≤ m + n
abs_sum a b m n h k = omega (arith, ints, h, k)

-- lists of such sums, of numbers that are at most so great
pub sums_grow : (limit m : ℕ) (ps ns : List ℤ) → m + m ≤ limit → All (λ (z : ℤ). unsigned_abs z ≤ m) ps → All (λ (z : ℤ). unsigned_abs z ≤ m) ns
    → Holds (All (λ (z : ℤ). unsigned_abs z ≤ m + m)) (weighed_all limit (pos 1) ps (pos 1) ns)
sums_grow limit m [] ns most a b = All-nil (λ (z : ℤ). unsigned_abs z ≤ m + m)
sums_grow limit m (p ∷ ps) [] most a b = All-nil (λ (z : ℤ). unsigned_abs z ≤ m + m)
sums_grow limit m (p ∷ ps) (n ∷ ns) most a b =
    let low : unsigned_abs p ≤ m = All-head (λ (z : ℤ). unsigned_abs z ≤ m) p ps a in
    let less : unsigned_abs n ≤ m = All-head (λ (z : ℤ). unsigned_abs z ≤ m) n ns b in
    let sum : unsigned_abs (p +ℤ n) ≤ m + m = abs_sum p n m m low less in
    holds_then (λ (x : ℤ). x ≡ p +ℤ n) (All (λ (z : ℤ). unsigned_abs z ≤ m + m)) (weighed limit (pos 1) p (pos 1) n) (λ z. and_then (weighed_all limit (pos 1) ps (pos 1) ns) (λ zs. fits (z ∷ zs)))
    (weighed_ones limit p n (omega (arith, low, most)) (omega (arith, less, most)) (omega (arith, sum, most)))
    (λ z e. holds_then (All (λ (y : ℤ). unsigned_abs y ≤ m + m)) (All (λ (y : ℤ). unsigned_abs y ≤ m + m)) (weighed_all limit (pos 1) ps (pos 1) ns) (λ zs. fits (z ∷ zs))
    (sums_grow limit m ps ns most (All-tail (λ (y : ℤ). unsigned_abs y ≤ m) p ps a) (All-tail (λ (y : ℤ). unsigned_abs y ≤ m) n ns b))
    (λ zs k. All-cons (λ (y : ℤ). unsigned_abs y ≤ m + m) z zs (let P : ℤ → Type 0 = λ (y : ℤ). unsigned_abs y ≤ m + m in subst P (sym e) sum) k))

-- ---- the coefficients of a difference
abbrev pub gap : ℕ → ℕ → ℕ → ℤ
gap lower higher v = unit lower v -ℤ unit higher v

abbrev pub gaps : ℕ → ℕ → ℕ → List ℤ
gaps vars lower higher = map (gap lower higher) (counted 0 vars)

pub unit_is : (place v : ℕ) → (pos 0 ≤ℤ unit place v) × (unit place v ≤ℤ pos 1)
unit_is place v = at_test (place == v)
  where
    at_test : (b : Bool) → (pos 0 ≤ℤ (if b then pos 1 else pos 0)) × ((if b then pos 1 else pos 0) ≤ℤ pos 1)
    at_test true = (omega (arith, ints), omega (arith, ints))
    at_test false = (omega (arith, ints), omega (arith, ints))

pub gap_small : (lower higher v : ℕ) → unsigned_abs (gap lower higher v) ≤ 1
gap_small lower higher v = small (unit lower v) (unit higher v) (unit_is lower v) (unit_is higher v)
  where
    small : (a b : ℤ) → (pos 0 ≤ℤ a) × (a ≤ℤ pos 1) → (pos 0 ≤ℤ b) × (b ≤ℤ pos 1) → unsigned_abs (a -ℤ b) ≤ 1
    small a b h k = let p = h.0 in let q = h.1 in let r = k.0 in let s = k.1 in omega (arith, ints, p, q, r, s)

-- a difference to a variable and one from it make a difference
gaps_join : (lower v higher : ℕ) (ws : List ℕ) → Holds (λ (zs : List ℤ). zs ≡ map (gap lower higher) ws) (weighed_all (2 ^ 126) (pos 1) (map (gap v higher) ws) (pos 1) (map (gap lower v) ws))
gaps_join lower v higher [] = refl
gaps_join lower v higher (w ∷ ws) =
    let p = gap v higher w in let n = gap lower v w in
    let is : p +ℤ n ≡ gap lower higher w = joined (unit v w) (unit higher w) (unit lower w) in
    let a = gap_small v higher w in let b = gap_small lower v w in let c = gap_small lower higher w in
    let sum : unsigned_abs (p +ℤ n) ≤ 2 ^ 126 = let same : unsigned_abs (p +ℤ n) ≡ unsigned_abs (gap lower higher w) = ap unsigned_abs is in omega (arith, same, c) in
    holds_then (λ (x : ℤ). x ≡ p +ℤ n) (λ (zs : List ℤ). zs ≡ map (gap lower higher) (w ∷ ws)) (weighed (2 ^ 126) (pos 1) p (pos 1) n) (λ z. and_then (weighed_all (2 ^ 126) (pos 1) (map (gap v higher) ws) (pos 1) (map (gap lower v) ws)) (λ zs. fits (z ∷ zs)))
    (weighed_ones (2 ^ 126) p n (omega (arith, a)) (omega (arith, b)) sum)
    (λ z e. holds_then (λ (zs : List ℤ). zs ≡ map (gap lower higher) ws) (λ (zs : List ℤ). zs ≡ map (gap lower higher) (w ∷ ws)) (weighed_all (2 ^ 126) (pos 1) (map (gap v higher) ws) (pos 1) (map (gap lower v) ws)) (λ zs. fits (z ∷ zs))
    (gaps_join lower v higher ws)
    (λ zs k. ap (λ (x : ℤ). x ∷ zs) (e ∙ is) ∙ ap (λ (xs : List ℤ). gap lower higher w ∷ xs) k))
  where
    joined : (a b c : ℤ) → (a -ℤ b) +ℤ (c -ℤ a) ≡ c -ℤ b
    joined a b c = omega (arith, ints)

-- a row that is a difference, whose constant and multipliers are at most so great
pub record IsGap (vars most weight : ℕ) (row : Combination) : Type 0 where
  pub lower : ℕ
  pub higher : ℕ
  pub lower_most : lower ≤ vars
  pub higher_most : higher ≤ vars
  pub coefficients : row.coefficients ≡ gaps vars lower higher
  pub constant : unsigned_abs row.constant ≤ most
  pub multipliers : All (λ (m : ℤ). unsigned_abs m ≤ weight) row.multipliers

-- the coefficient of a variable
counted_at : (from n k : ℕ) (f : ℕ → ℤ) → k < n → get_or (map f (counted from n)) k (pos 0) ≡ f (from + k)
counted_at from zero k f h = absurd (omega arith)
counted_at from (suc n) zero f h = let e : from + 0 ≡ from = omega arith in ap f (sym e)
counted_at from (suc n) (suc k) f h = let e : suc from + k ≡ from + suc k = omega arith in counted_at (suc from) n k f (omega arith) ∙ ap f e

length_counted : (from n : ℕ) → length (counted from n) ≡ n
length_counted from zero = refl
length_counted from (suc n) = ap suc (length_counted (suc from) n)

pub gaps_at : (vars lower higher v : ℕ) → v < vars → get_or (gaps vars lower higher) v (pos 0) ≡ gap lower higher v
gaps_at vars lower higher v below = let e : 0 + v ≡ v = omega arith in counted_at 0 vars v (gap lower higher) below ∙ ap (gap lower higher) e

gaps_past : (vars lower higher v : ℕ) → vars ≤ v → get_or (gaps vars lower higher) v (pos 0) ≡ pos 0
gaps_past vars lower higher v past = get_or_past (gaps vars lower higher) v (pos 0) (omega (arith, past, length-map (counted 0 vars) (gap lower higher), length_counted 0 vars))

-- which variable has a coefficient above 0, and which one below
pub above_is : (vars lower higher v : ℕ) (z : ℤ) → get_or (gaps vars lower higher) v (pos 0) ≡ z → int_lt (pos 0) z ≡ true → (lower ≡ v) × (z ≡ pos 1)
above_is vars lower higher v z is test = ⊎_elim
    (λ (low : v < vars).
    let e : gap lower higher v ≡ z = sym (gaps_at vars lower higher v low) ∙ is in
    let found = at_tests (lower == v) (higher == v) refl refl (ap (λ (x : ℤ). int_lt (pos 0) x) e ∙ test) in (found.0, sym e ∙ found.1))
    (λ (high : vars ≤ v). absurd (false≢true (ap (λ (x : ℤ). int_lt (pos 0) x) (sym (gaps_past vars lower higher v high) ∙ is) ∙ test)))
    (cases_lt v vars)
  where
    at_tests : (b c : Bool) → (lower == v) ≡ b → (higher == v) ≡ c → int_lt (pos 0) ((if b then pos 1 else pos 0) -ℤ (if c then pos 1 else pos 0)) ≡ true
        → (lower ≡ v) × (((if b then pos 1 else pos 0) -ℤ (if c then pos 1 else pos 0)) ≡ pos 1)
    at_tests true true h k t = absurd (false≢true t)
    at_tests true false h k t = (eqb-true lower v h, refl)
    at_tests false true h k t = absurd (false≢true t)
    at_tests false false h k t = absurd (false≢true t)

pub below_is : (vars lower higher v : ℕ) (z : ℤ) → get_or (gaps vars lower higher) v (pos 0) ≡ z → int_lt z (pos 0) ≡ true → (higher ≡ v) × (unsigned_abs z ≡ 1)
below_is vars lower higher v z is test = ⊎_elim
    (λ (low : v < vars).
    let e : gap lower higher v ≡ z = sym (gaps_at vars lower higher v low) ∙ is in
    let found = at_tests (lower == v) (higher == v) refl refl (ap (λ (x : ℤ). int_lt x (pos 0)) e ∙ test) in (found.0, ap unsigned_abs (sym e) ∙ found.1))
    (λ (high : vars ≤ v). absurd (false≢true (ap (λ (x : ℤ). int_lt x (pos 0)) (sym (gaps_past vars lower higher v high) ∙ is) ∙ test)))
    (cases_lt v vars)
  where
    at_tests : (b c : Bool) → (lower == v) ≡ b → (higher == v) ≡ c → int_lt ((if b then pos 1 else pos 0) -ℤ (if c then pos 1 else pos 0)) (pos 0) ≡ true
        → (higher ≡ v) × (unsigned_abs ((if b then pos 1 else pos 0) -ℤ (if c then pos 1 else pos 0)) ≡ 1)
    at_tests true true h k t = absurd (false≢true t)
    at_tests true false h k t = absurd (false≢true t)
    at_tests false true h k t = (eqb-true higher v k, refl)
    at_tests false false h k t = absurd (false≢true t)

-- ---- a combination
gcd_ones : 1 ≡ gcd 1 1
unfolding gcd
gcd_ones = refl

coefficients_join : (vars lower v higher : ℕ) (ps ns : List ℤ) → ps ≡ gaps vars v higher → ns ≡ gaps vars lower v → Holds (λ (zs : List ℤ). zs ≡ gaps vars lower higher) (weighed_all (2 ^ 126) (pos 1) ps (pos 1) ns)
coefficients_join vars lower v higher ps ns e f =
    let P : List ℤ → Type 0 = λ xs. Holds (λ (zs : List ℤ). zs ≡ gaps vars lower higher) (weighed_all (2 ^ 126) (pos 1) xs (pos 1) ns) in
    let Q : List ℤ → Type 0 = λ xs. Holds (λ (zs : List ℤ). zs ≡ gaps vars lower higher) (weighed_all (2 ^ 126) (pos 1) (gaps vars v higher) (pos 1) xs) in
    subst P (sym e) (subst Q (sym f) (gaps_join lower v higher (counted 0 vars)))

rows_join : (vars most weight v : ℕ) (p n : Combination) (h : IsGap vars most weight p) (k : IsGap vars most weight n) → h.lower ≡ v → k.higher ≡ v → most + most ≤ 2 ^ 126 → weight + weight ≤ 2 ^ 62
    → Holds (IsGap vars (most + most) (weight + weight)) (weighed_rows (pos 1) p (pos 1) n)
rows_join vars most weight v p n h k up down a b =
    let c = h.constant in let d = k.constant in
    let sum : unsigned_abs (p.constant +ℤ n.constant) ≤ most + most = abs_sum p.constant n.constant most most c d in
    holds_then (λ (zs : List ℤ). zs ≡ gaps vars k.lower h.higher) (IsGap vars (most + most) (weight + weight)) (weighed_all (2 ^ 126) (pos 1) p.coefficients (pos 1) n.coefficients) (λ cs.
    and_then (weighed (2 ^ 126) (pos 1) p.constant (pos 1) n.constant) (λ s.
    and_then (weighed_all (2 ^ 62) (pos 1) p.multipliers (pos 1) n.multipliers) (λ ms.
    fits (record { coefficients = cs; constant = s; multipliers = ms }))))
    (coefficients_join vars k.lower v h.higher p.coefficients n.coefficients (h.coefficients ∙ ap (λ (x : ℕ). gaps vars x h.higher) up) (k.coefficients ∙ ap (λ (x : ℕ). gaps vars k.lower x) down))
    (λ cs x. holds_then (λ (z : ℤ). z ≡ p.constant +ℤ n.constant) (IsGap vars (most + most) (weight + weight)) (weighed (2 ^ 126) (pos 1) p.constant (pos 1) n.constant) (λ s.
    and_then (weighed_all (2 ^ 62) (pos 1) p.multipliers (pos 1) n.multipliers) (λ ms.
    fits (record { coefficients = cs; constant = s; multipliers = ms })))
    (weighed_ones (2 ^ 126) p.constant n.constant (omega (arith, c, a)) (omega (arith, d, a)) (omega (arith, sum, a)))
    (λ s y. holds_then (All (λ (z : ℤ). unsigned_abs z ≤ weight + weight)) (IsGap vars (most + most) (weight + weight)) (weighed_all (2 ^ 62) (pos 1) p.multipliers (pos 1) n.multipliers) (λ ms.
    fits (record { coefficients = cs; constant = s; multipliers = ms }))
    (sums_grow (2 ^ 62) weight p.multipliers n.multipliers b h.multipliers k.multipliers)
    (λ ms z. record {
      lower = k.lower;
      higher = h.higher;
      lower_most = k.lower_most;
      higher_most = h.higher_most;
      coefficients = x;
      constant = let P : ℤ → Type 0 = λ (u : ℤ). unsigned_abs u ≤ most + most in subst P (sym y) sum;
      multipliers = z;
    })))

gap_sign : (vars most weight v : ℕ) (p n : Combination) (h : IsGap vars most weight p) (k : IsGap vars most weight n) → is_plus v p ≡ true → is_minus v n ≡ true
    → ((h.lower ≡ v) × (at v p ≡ pos 1)) × ((k.higher ≡ v) × (unsigned_abs (at v n) ≡ 1))
gap_sign vars most weight v p n h k plus minus = (
  above_is vars h.lower h.higher v (at v p) (ap (λ (xs : List ℤ). get_or xs v (pos 0)) (sym h.coefficients)) plus,
  below_is vars k.lower k.higher v (at v n) (ap (λ (xs : List ℤ). get_or xs v (pos 0)) (sym k.coefficients)) minus,
)

pub combination_is : (vars most weight v : ℕ) (p n : Combination) → IsGap vars most weight p → IsGap vars most weight n → is_plus v p ≡ true → is_minus v n ≡ true → most + most ≤ 2 ^ 126 → weight + weight ≤ 2 ^ 62
    → Holds (IsGap vars (most + most) (weight + weight)) (combination_of v p n)
combination_is vars most weight v p n h k plus minus a b =
    let signs = gap_sign vars most weight v p n h k plus minus in
    let P : Checked Combination → Type 0 = Holds (IsGap vars (most + most) (weight + weight)) in
    subst P (combined v p n (pos 1) (pos 1) 1 1 1 (sym (ap unsigned_abs signs.0.1)) (sym signs.1.1) gcd_ones refl refl)
    (rows_join vars most weight v p n h k signs.0.0 signs.1.0 a b)

-- ---- the rows of a round
abbrev pub AreGaps : ℕ → ℕ → ℕ → List Combination → Type 0
AreGaps vars most weight rows = (row : Combination) → Contains rows row → IsGap vars most weight row

gap_grows : (vars most weight : ℕ) (row : Combination) → IsGap vars most weight row → IsGap vars (most + most) (weight + weight) row
gap_grows vars most weight row h = record {
  lower = h.lower;
  higher = h.higher;
  lower_most = h.lower_most;
  higher_most = h.higher_most;
  coefficients = h.coefficients;
  constant = let c = h.constant in omega (arith, c);
  multipliers = All-weaker (λ (m : ℤ). unsigned_abs m ≤ weight) (λ (m : ℤ). unsigned_abs m ≤ weight + weight) (λ m c. omega (arith, c)) row.multipliers h.multipliers;
}

map_holds : {A B : Type 0} (P : B → Type 0) (f : A → Checked B) (xs : List A) → ((x : A) → Contains xs x → Holds P (f x)) → Holds (All P) (checked_map f xs)
map_holds P f [] h = All-nil P
map_holds P f (x ∷ xs) h =
    holds_then P (All P) (f x) (λ y. and_then (checked_map f xs) (λ ys. fits (y ∷ ys))) (h x (0, omega arith, refl))
    (λ y e. holds_then (All P) (All P) (checked_map f xs) (λ ys. fits (y ∷ ys)) (map_holds P f xs (λ z k. h z (further x z xs k))) (λ ys k. All-cons P y ys e k))

pub next_gaps : (vars most weight v : ℕ) (rows : List Combination) → AreGaps vars most weight rows → most + most ≤ 2 ^ 126 → weight + weight ≤ 2 ^ 62 → Holds (AreGaps vars (most + most) (weight + weight)) (next_rows v rows)
next_gaps vars most weight v rows h a b =
    let ps = filter (is_plus v) rows in
    let ns = filter (is_minus v) rows in
    let Good : Combination → Type 0 = IsGap vars (most + most) (weight + weight) in
    holds_then (All Good) (AreGaps vars (most + most) (weight + weight)) (checked_map (λ (x : Combination × Combination). combination_of v x.0 x.1) (couples ps ns)) (λ new. fits (filter (is_rest v) rows ++ new))
    (map_holds Good (λ (x : Combination × Combination). combination_of v x.0 x.1) (couples ps ns) (λ x has.
    let both = couples_within ps ns x has in
    combination_is vars most weight v x.0 x.1 (h x.0 (filter_within (is_plus v) rows x.0 both.0)) (h x.1 (filter_within (is_minus v) rows x.1 both.1)) (filter_true (is_plus v) rows x.0 both.0) (filter_true (is_minus v) rows x.1 both.1) a b))
    (λ new all row has. ⊎_elim
    (λ (old : Contains (filter (is_rest v) rows) row). gap_grows vars most weight row (h row (filter_within (is_rest v) rows row old)))
    (λ (late : Contains new row). All-contains Good new row all late)
    (Contains-append_cases (filter (is_rest v) rows) new row has))
