-- A point that elimination gives meets every row.
use Rattle.std.proofs.Common.{◌≡◌, ◌≢◌, ℕ, zero, suc, ◌+◌, ◌*◌, ◌<◌, ◌≤◌, ◌^◌, ℤ, pos, negsuc, ◌+ℤ◌, ◌*ℤ◌, ◌≤ℤ◌, ◌<ℤ◌, Bool, true, false, if◌then◌else◌, unsigned_abs, nat_le, nat_lt, Option, Some, None, List, [], ◌∷◌, ◌++◌, All, Contains, map, set, filter, replicate, length, get_or, ◌⊎◌, inl, inr, ⊎_elim, refl, sym, ap, ◌∙◌, subst, arith}
use Prim.Native.Nat.{◌∣◌}
use Rattle.std.specs.Prelude.{int_lt, int_div, not, ◌&&◌, ◌||◌}
use Rattle.std.specs.List.{list_all, list_any, count_by}
use Rattle.std.proofs.Math.IntN.{zero-*ℤ, *ℤ_comm}
use Rattle.std.proofs.lemmas.Int.{ints, unsigned_abs-mul}
use Rattle.std.proofs.lemmas.Bool.{false≢true, cases_lt, leb-false, le-leb}
use Rattle.std.proofs.lemmas.Nat.Gcd.{dvd_trans, dvd_refl}
use Rattle.std.proofs.lemmas.List.{length-map, length-set, length-replicate, get_or-set_other}
use Rattle.std.proofs.lemmas.List.Elements.{All-nil, All-cons, All-same, All-set, All-replicate, Contains-append_right, Contains-push_cases}
use Rattle.std.proofs.lemmas.List.Folds.{Any-from_list_any}
use Rattle.kat_linear.proofs.Integers.{add-mul, mul_assoc, mul_at_most, mul_above, mul_one}
use Rattle.kat_fm.specs.Limits.{Checked, and_then, checked_product, checked_scaled, checked_map}
use Rattle.kat_fm.specs.Limits.Checked.{fits, passes}
use Rattle.kat_fm.specs.Combinations.{Combination, at, gcd, counted}
use Rattle.kat_fm.specs.Points.{Taken, Values, Bound, bound_of, gcd_all, lowest, valued, values_back, point_of}
use Rattle.kat_fm.specs.Eliminations.{Solution, contradiction, strongest, tidied, is_plus, is_minus, is_rest, pairs, better, choice_from, next_rows, taken_at, answer_point, go_on, step, begin, rounds}
use Rattle.kat_fm.specs.Comparisons.{is_zero, has_variables, covers, exceeds}
use Rattle.kat_fm.specs.Eliminations.Solution.{met_at, crowded}
use Rattle.kat_fm.proofs.Tracks.{dot}
use Rattle.kat_fm.proofs.Combinations.{and_then_fits, within_fits, within_small, value, weighed_value, length-plain}
use Rattle.kat_fm.proofs.Certificates.{in_nothing, cases_cons, behind as further, filter_within, strongest_within, and_parts, zero_is}
use Rattle.kat_fm.proofs.Divisors.{gcd_is}
use Rattle.kat_fm.proofs.Backs.{scaled_fits, scaled_at, dot-scaled, value_back, rest_met, minus_met, plus_met, plus_bound}
use Rattle.kat_fm.proofs.Fractions.{times_most, times_most_back, plus_is, minus_is, exact}
use Rattle.kat_fm.proofs.BestBounds.{IsBest, best_is}
use Rattle.kat_fm.proofs.Members.{filter_has, filter_true, IsCombined, plus_above, minus_above, left_out, stays_out, IsNew, next_from, next_rest, next_pairs, Covers, CoveredIn, covers_is, covers_trans, exceeds_is, or_cases}

-- ---- step 2
covered_by_any : (before : List Combination) (row : Combination) → list_any (λ other. covers other row) before ≡ true → CoveredIn before row
covered_by_any before row e =
    let found = Any-from_list_any (λ other. covers other row) before e in
    record { other = found.1; among = (found.0, found.2, found.3); covers = covers_is found.1 row found.4 }

covered_here : (before rows : List Combination) (row : Combination) (t : Bool) → (list_any (λ other. covers other row) before || list_any (λ other. exceeds other row) rows) ≡ t
    → ((r : Combination) → Contains rows r → CoveredIn before r ⊎ CoveredIn (strongest (before ++ row ∷ []) rows) r ⊎ Covers row r)
    → CoveredIn before row ⊎ CoveredIn ((if t then [] else row ∷ []) ++ strongest (before ++ row ∷ []) rows) row
covered_here before rows row false e on = inr (record { other = row; among = (0, omega arith, refl); covers = record { same = refl; most = omega (arith, ints) } })
covered_here before rows row true e on = ⊎_elim
    (λ (k : list_any (λ other. covers other row) before ≡ true). inl (covered_by_any before row k))
    (λ (k : list_any (λ other. exceeds other row) rows ≡ true).
    let found = Any-from_list_any (λ other. exceeds other row) rows k in
    let is = exceeds_is found.1 row found.4 in
    three (on found.1 (found.0, found.2, found.3)) is.0 is.1)
    (or_cases (list_any (λ other. covers other row) before) (list_any (λ other. exceeds other row) rows) e)
  where
    three : {r : Combination} → CoveredIn before r ⊎ CoveredIn (strongest (before ++ row ∷ []) rows) r ⊎ Covers row r → Covers r row → row.constant <ℤ r.constant → CoveredIn before row ⊎ CoveredIn (strongest (before ++ row ∷ []) rows) row
    three {r} (inl c) is less = inl (record { other = c.other; among = c.among; covers = covers_trans c.other r row c.covers is })
    three {r} (inr (inl c)) is less = inr (record { other = c.other; among = c.among; covers = covers_trans c.other r row c.covers is })
    three {r} (inr (inr c)) is less = absurd (let m = c.most in omega (arith, ints, m, less))

split_pushed : (before rows : List Combination) (row r : Combination) → CoveredIn (before ++ row ∷ []) r ⊎ CoveredIn (strongest (before ++ row ∷ []) rows) r → CoveredIn before r ⊎ CoveredIn (strongest (before ++ row ∷ []) rows) r ⊎ Covers row r
split_pushed before rows row r (inl c) = ⊎_elim
    (λ (k : Contains before c.other). inl (record { other = c.other; among = k; covers = c.covers }))
    (λ (same : row ≡ c.other). let P : Combination → Type 0 = λ x. Covers x r in inr (inr (subst P (sym same) c.covers)))
    (Contains-push_cases before row c.other c.among)
split_pushed before rows row r (inr c) = inr (inl c)

joined : (t : Bool) (row r : Combination) (before rest : List Combination) → CoveredIn before row ⊎ CoveredIn ((if t then [] else row ∷ []) ++ rest) row → CoveredIn before r ⊎ CoveredIn rest r ⊎ Covers row r → CoveredIn before r ⊎ CoveredIn ((if t then [] else row ∷ []) ++ rest) r
joined t row r before rest own (inl c) = inl c
joined t row r before rest own (inr (inl c)) = inr (record { other = c.other; among = Contains-append_right (if t then [] else row ∷ []) rest c.other c.among; covers = c.covers })
joined t row r before rest (inl o) (inr (inr c)) = inl (record { other = o.other; among = o.among; covers = covers_trans o.other row r o.covers c })
joined t row r before rest (inr o) (inr (inr c)) = inr (record { other = o.other; among = o.among; covers = covers_trans o.other row r o.covers c })

-- each row is covered by one that stays, or by one before
covered : (before rows : List Combination) (r : Combination) → Contains rows r → CoveredIn before r ⊎ CoveredIn (strongest before rows) r
covered before [] r h = absurd (in_nothing r h)
covered before (row ∷ rows) r h =
    let t = list_any (λ other. covers other row) before || list_any (λ other. exceeds other row) rows in
    let rest = strongest (before ++ row ∷ []) rows in
    let on : (x : Combination) → Contains rows x → CoveredIn before x ⊎ CoveredIn rest x ⊎ Covers row x = λ x k. split_pushed before rows row x (covered (before ++ row ∷ []) rows x k) in
    let own = covered_here before rows row t refl on in
    ⊎_elim
    (λ (same : row ≡ r). let P : Combination → Type 0 = λ x. CoveredIn before x ⊎ CoveredIn (strongest before (row ∷ rows)) x in subst P same own)
    (λ (k : Contains rows r). joined t row r before rest own (on r k))
    (cases_cons row r rows h)

tidied_covers : (rows : List Combination) (r : Combination) → Contains rows r → has_variables r ≡ true → CoveredIn (tidied rows) r
tidied_covers rows r h e = ⊎_elim
    (λ (c : CoveredIn [] r). absurd (in_nothing c.other c.among))
    (λ (c : CoveredIn (tidied rows) r). c)
    (covered [] (filter has_variables rows) r (filter_has has_variables rows r h e))

pub tidied_within : (rows : List Combination) (r : Combination) → Contains (tidied rows) r → Contains rows r
tidied_within rows r h = filter_within has_variables rows r (strongest_within [] (filter has_variables rows) r h)

tidied_has : (rows : List Combination) (r : Combination) → Contains (tidied rows) r → has_variables r ≡ true
tidied_has rows r h = filter_true has_variables rows r (strongest_within [] (filter has_variables rows) r h)

-- ---- step 1
no_contradiction : (rows : List Combination) (r : Combination) → contradiction rows ≡ None → Contains rows r → (not (has_variables r) && int_lt (pos 0) r.constant) ≡ false
no_contradiction [] r e h = absurd (in_nothing r h)
no_contradiction (row ∷ rows) r e h = at_test (not (has_variables row) && int_lt (pos 0) row.constant) refl e (λ f j. no_contradiction rows r f j)
  where
    at_test : (t : Bool) → (not (has_variables row) && int_lt (pos 0) row.constant) ≡ t → ◌≡◌ {A = Option (List ℤ)} (if t then Some row.multipliers else contradiction rows) None → (contradiction rows ≡ None → Contains rows r → (not (has_variables r) && int_lt (pos 0) r.constant) ≡ false) → (not (has_variables r) && int_lt (pos 0) r.constant) ≡ false
    at_test true k f on = absurd (cc)
    at_test false k f on = ⊎_elim
        (λ (same : row ≡ r). let P : Combination → Type 0 = λ x. (not (has_variables x) && int_lt (pos 0) x.constant) ≡ false in subst P same k)
        (λ (j : Contains rows r). on f j)
        (cases_cons row r rows h)

-- ---- step 3
if_none : (t : Bool) (rows : List Combination) (kept : Option ℕ) (v : ℕ) → (if t then kept else better rows kept v) ≡ None → (t ≡ true) × (kept ≡ None)
if_none true rows kept v e = (refl, e)
if_none false rows None v e = absurd (cc)
if_none false rows (Some k) v e = absurd (some (nat_le (pairs k rows) (pairs v rows)) e)
  where
    some : (b : Bool) → (if b then Some k else Some v) ≡ None → ⊥
    some true f = cc
    some false f = cc

pub choice_none : (rows : List Combination) (kept : Option ℕ) (vs : List ℕ) (v : ℕ) → choice_from rows kept vs ≡ None → Contains vs v → list_all (is_rest v) rows ≡ true
choice_none rows kept [] v e h = absurd (in_nothing v h)
choice_none rows kept (u ∷ vs) v e h =
    let none = if_none (list_all (is_rest u) rows) rows kept u (kept_none rows (if list_all (is_rest u) rows then kept else better rows kept u) vs e) in
    ⊎_elim
    (λ (same : u ≡ v). ap (λ x. list_all (is_rest x) rows) (sym same) ∙ none.0)
    (λ (k : Contains vs v). choice_none rows (if list_all (is_rest u) rows then kept else better rows kept u) vs v e k)
    (cases_cons u v vs h)
  where
    kept_none : (rs : List Combination) (o : Option ℕ) (us : List ℕ) → choice_from rs o us ≡ None → o ≡ None
    kept_none rs o [] f = f
    kept_none rs o (x ∷ us) f = (if_none (list_all (is_rest x) rs) rs o x (kept_none rs (if list_all (is_rest x) rs then o else better rs o x) us f)).1

if_some : (t : Bool) (rows : List Combination) (kept : Option ℕ) (u v : ℕ) → (if t then kept else better rows kept u) ≡ Some v → (kept ≡ Some v) ⊎ ((u ≡ v) × (t ≡ false))
if_some true rows kept u v e = inl e
if_some false rows None u v e = inr (one u v e, refl)
  where
    one : (a b : ℕ) → Some a ≡ Some b → a ≡ b
    one a b f = cc
if_some false rows (Some k) u v e = pick (nat_le (pairs k rows) (pairs u rows)) e
  where
    one : (a b : ℕ) → Some a ≡ Some b → a ≡ b
    one a b f = cc

    pick : (b : Bool) → (if b then Some k else Some u) ≡ Some v → (Some k ≡ Some v) ⊎ ((u ≡ v) × (false ≡ false))
    pick true f = inl f
    pick false f = inr (one u v f, refl)

pub choice_some : (rows : List Combination) (kept : Option ℕ) (vs : List ℕ) (v : ℕ) → choice_from rows kept vs ≡ Some v → (kept ≡ Some v) ⊎ (Contains vs v × (list_all (is_rest v) rows ≡ false))
choice_some rows kept [] v e = inl e
choice_some rows kept (u ∷ vs) v e = ⊎_elim
    (λ (k : (if list_all (is_rest u) rows then kept else better rows kept u) ≡ Some v). ⊎_elim
    (λ (j : kept ≡ Some v). inl j)
    (λ (j : (u ≡ v) × (list_all (is_rest u) rows ≡ false)). inr ((0, omega arith, j.0), ap (λ x. list_all (is_rest x) rows) (sym j.0) ∙ j.1))
    (if_some (list_all (is_rest u) rows) rows kept u v k))
    (λ (k : Contains vs v × (list_all (is_rest v) rows ≡ false)). inr (further u v vs k.0, k.1))
    (choice_some rows (if list_all (is_rest u) rows then kept else better rows kept u) vs v e)

pub all_at : (test : Combination → Bool) (rows : List Combination) (r : Combination) → list_all test rows ≡ true → Contains rows r → test r ≡ true
all_at test [] r e h = absurd (in_nothing r h)
all_at test (row ∷ rows) r e h =
    let parts = and_parts (test row) (list_all test rows) e in
    ⊎_elim (λ (same : row ≡ r). ap test (sym same) ∙ parts.0) (λ (k : Contains rows r). all_at test rows r parts.1 k) (cases_cons row r rows h)

pub record FailsAt (test : Combination → Bool) (rows : List Combination) : Type 0 where
  pub row : Combination
  pub among : Contains rows row
  pub fails : test row ≡ false

pub fails_at : (test : Combination → Bool) (rows : List Combination) → list_all test rows ≡ false → FailsAt test rows
fails_at test [] e = absurd (false≢true (sym e))
fails_at test (row ∷ rows) e = at_first (test row) refl e (λ f. fails_at test rows f)
  where
    more : FailsAt test rows → FailsAt test (row ∷ rows)
    more f = record { row = f.row; among = further row f.row rows f.among; fails = f.fails }

    at_first : (b : Bool) → test row ≡ b → (b && list_all test rows) ≡ false → (list_all test rows ≡ false → FailsAt test rows) → FailsAt test (row ∷ rows)
    at_first false k f on = record { row = row; among = (0, omega arith, refl); fails = k }
    at_first true k f on = more (on f)

-- ---- the step back by one variable
-- what a bound does to the rows with the variable
pub record Suits (v : ℕ) (values : Values) (minus plus : List Combination) (b : Bound) : Type 0 where
  pub factor : ℕ
  pub is : b.factor ≡ pos factor
  pub above : 0 < factor
  pub small : unsigned_abs b.numerator ≤ 2 ^ 126
  pub meets : (row : Combination) → Contains minus row ⊎ Contains plus row → ((value values.den values.nums row *ℤ pos factor) +ℤ (at v row *ℤ b.numerator)) ≤ℤ pos 0

abbrev pub ArePaired : ℕ → Values → List Combination → List Combination → Type 0
ArePaired v values minus plus = (p n : Combination) → Contains plus p → Contains minus n → (row : Combination) × IsCombined v p n row × (value values.den values.nums row ≤ℤ pos 0)

pub record AreSides (v vars : ℕ) (minus plus : List Combination) : Type 0 where
  pub minus_sign : (row : Combination) → Contains minus row → is_minus v row ≡ true
  pub plus_sign : (row : Combination) → Contains plus row → is_plus v row ≡ true
  pub minus_size : (row : Combination) → Contains minus row → length row.coefficients ≡ vars
  pub plus_size : (row : Combination) → Contains plus row → length row.coefficients ≡ vars

suits_lower : (v vars : ℕ) (values : Values) (minus plus : List Combination) (b : Bound) → AreSides v vars minus plus → ArePaired v values minus plus → IsBest true v values minus b → Suits v values minus plus b
suits_lower v vars values minus plus b sides paired best =
    let n = best.source in let w = unsigned_abs (at v n) in
    record {
      factor = w;
      is = best.of.factor;
      above = minus_above (at v n) (sides.minus_sign n best.among);
      small = best.of.small;
      meets = λ row side. ⊎_elim
          (λ (h : Contains minus row). minus_met (value values.den values.nums row) b.numerator (unsigned_abs (at v row)) w (at v row) (minus_is (at v row) (sides.minus_sign row h)) (best.covers row h))
          (λ (h : Contains plus row).
          let pair = paired row n h best.among in
          let is = pair.1 in
          let whole : value values.den values.nums pair.0 ≡ (pos is.f *ℤ value values.den values.nums row) +ℤ (pos is.g *ℤ value values.den values.nums n) =
          weighed_value values.den values.nums is.f row is.g n pair.0 (sides.plus_size row h ∙ sym (sides.minus_size n best.among)) is.weighed in
          let low = pair.2 in
          let sum : (pos is.f *ℤ value values.den values.nums row) +ℤ (pos is.g *ℤ b.numerator) ≡ value values.den values.nums pair.0 = ap (λ z. (pos is.f *ℤ value values.den values.nums row) +ℤ (pos is.g *ℤ z)) best.of.sum ∙ sym whole in
          plus_met (value values.den values.nums row) b.numerator (at v row) (unsigned_abs (at v row)) w is.f is.g is.k (plus_is (at v row) (sides.plus_sign row h)) (ap pos is.first) (ap pos is.second) (omega (arith, ints, sum, low)))
          side;
    }

suits_upper : (v vars : ℕ) (values : Values) (plus : List Combination) (b : Bound) → AreSides v vars [] plus → IsBest false v values plus b → Suits v values [] plus b
suits_upper v vars values plus b sides best =
    let n = best.source in let w = unsigned_abs (at v n) in
    record {
      factor = w;
      is = best.of.factor;
      above = plus_above (at v n) (sides.plus_sign n best.among);
      small = best.of.small;
      meets = λ row side. ⊎_elim
          (λ (h : Contains [] row). absurd (in_nothing row h))
          (λ (h : Contains plus row). plus_bound (value values.den values.nums row) b.numerator (unsigned_abs (at v row)) w (at v row) (plus_is (at v row) (sides.plus_sign row h)) (best.covers row h))
          side;
    }

fits_bounds : (a b : Bound) → fits a ≡ fits b → a ≡ b
fits_bounds a b e = cc

suits : (v vars : ℕ) (values : Values) (minus plus : List Combination) (b : Bound) → AreSides v vars minus plus → ArePaired v values minus plus → bound_of v values minus plus ≡ fits b → Suits v values minus plus b
suits v vars values [] [] b sides paired e =
    let P : Bound → Type 0 = Suits v values [] [] in
    subst P (fits_bounds (record { numerator = pos 0; factor = pos 1 }) b e)
    (record { factor = 1; is = refl; above = omega arith; small = omega arith; meets = λ row side. ⊎_elim (λ (h : Contains [] row). absurd (in_nothing row h)) (λ (h : Contains [] row). absurd (in_nothing row h)) side })
suits v vars values [] (p ∷ ps) b sides paired e =
    suits_upper v vars values (p ∷ ps) b sides (best_is false v values p ps b (λ r h. plus_above (at v r) (sides.plus_sign r h)) e)
suits v vars values (m ∷ ms) plus b sides paired e =
    suits_lower v vars values (m ∷ ms) plus b sides paired (best_is true v values m ms b (λ r h. minus_above (at v r) (sides.minus_sign r h)) e)

-- ---- lowest terms
pub record IsScaled (g : ℕ) (old new : Values) : Type 0 where
  pub above : 0 < g
  pub den : new.den *ℤ pos g ≡ old.den
  pub nums : map (λ n. n *ℤ pos g) new.nums ≡ old.nums

exact_all : (g : ℕ) (ns : List ℤ) → ((n : ℤ) → Contains ns n → g ∣ unsigned_abs n) → map (λ n. n *ℤ pos g) (map (λ n. int_div n (pos g)) ns) ≡ ns
exact_all g [] h = refl
exact_all g (n ∷ ns) h = ap (λ x. x ∷ map (λ k. k *ℤ pos g) (map (λ k. int_div k (pos g)) ns)) (exact n g (h n (0, omega arith, refl))) ∙ ap (λ xs. n ∷ xs) (exact_all g ns (λ m k. h m (further n m ns k)))

gcd_all_divides : (g : ℕ) (ns : List ℤ) → (gcd_all g ns ∣ g) × ((n : ℤ) → Contains ns n → gcd_all g ns ∣ unsigned_abs n)
gcd_all_divides g [] = (dvd_refl g, λ n h. absurd (in_nothing n h))
gcd_all_divides g (n ∷ ns) =
    let rest = gcd_all_divides (gcd g (unsigned_abs n)) ns in
    let d = gcd_all (gcd g (unsigned_abs n)) ns in
    let is = gcd_is g (unsigned_abs n) in (
      dvd_trans d rest.0 is.0,
      λ m h. ⊎_elim
          (λ (same : n ≡ m). let P : ℤ → Type 0 = λ x. d ∣ unsigned_abs x in subst P same (dvd_trans d rest.0 is.1))
          (λ (k : Contains ns m). rest.1 m k)
          (cases_cons n m ns h),
    )

ones : (ns : List ℤ) → map (λ n. n *ℤ pos 1) ns ≡ ns
ones [] = refl
ones (n ∷ ns) = ap (λ x. x ∷ map (λ k. k *ℤ pos 1) ns) (mul_one n) ∙ ap (λ xs. n ∷ xs) (ones ns)

lowest_at : (t : Bool) (g : ℕ) (old : Values) → nat_le g 1 ≡ t → (g ∣ unsigned_abs old.den) → ((n : ℤ) → Contains old.nums n → g ∣ unsigned_abs n)
    → (k : ℕ) × IsScaled k old (if t then old else record { den = int_div old.den (pos g); nums = map (λ n. int_div n (pos g)) old.nums })
lowest_at true g old e d h = (1, record { above = omega arith; den = mul_one old.den; nums = ones old.nums })
lowest_at false g old e d h = (g, record { above = let more = leb-false g 1 e in omega arith; den = exact old.den g d; nums = exact_all g old.nums h })

pub lowest_is : (old : Values) → (k : ℕ) × IsScaled k old (lowest old)
lowest_is old =
    let g = gcd_all (unsigned_abs old.den) old.nums in
    let divides = gcd_all_divides (unsigned_abs old.den) old.nums in
    lowest_at (nat_le g 1) g old refl divides.0 divides.1

pub smaller : (n m : ℤ) (g bound : ℕ) → 0 < g → n *ℤ pos g ≡ m → unsigned_abs m ≤ bound → unsigned_abs n ≤ bound
smaller n m g bound above e h =
    let whole : unsigned_abs n * g ≡ unsigned_abs m = sym (unsigned_abs-mul n (pos g)) ∙ ap unsigned_abs e in
    small_factor (unsigned_abs n) g bound above (let k = whole in omega (arith, k, h))
  where
    small_factor : (a b n : ℕ) → 0 < b → a * b ≤ n → a ≤ n
    small_factor a zero n k l = absurd (omega arith)
    small_factor a (suc b) n k l = omega (arith, l)

pub all_smaller : (ns ms : List ℤ) (g bound : ℕ) → 0 < g → map (λ n. n *ℤ pos g) ns ≡ ms → All (λ n. unsigned_abs n ≤ bound) ms → All (λ n. unsigned_abs n ≤ bound) ns
all_smaller [] ms g bound above e h = All-nil (λ n. unsigned_abs n ≤ bound)
all_smaller (n ∷ ns) [] g bound above e h = absurd (cc)
all_smaller (n ∷ ns) (m ∷ ms) g bound above e h =
    let heads = parts (n *ℤ pos g) (map (λ k. k *ℤ pos g) ns) m ms e in
    All-cons (λ k. unsigned_abs k ≤ bound) n ns (smaller n m g bound above heads.0 (h 0 (pos 0) (omega arith))) (all_smaller ns ms g bound above heads.1 (λ k d below. h (suc k) d (omega arith)))
  where
    parts : (x : ℤ) (xs : List ℤ) (y : ℤ) (ys : List ℤ) → x ∷ xs ≡ y ∷ ys → (x ≡ y) × (xs ≡ ys)
    parts x xs y ys f = ((cc), (cc))

zero_at : (ns : List ℤ) (g x : ℕ) → 0 < g → get_or (map (λ n. n *ℤ pos g) ns) x (pos 0) ≡ pos 0 → get_or ns x (pos 0) ≡ pos 0
zero_at [] g x above e = refl
zero_at (n ∷ ns) g zero above e =
    let low = times_most_back g n (pos 0) above (let k = e in let z : pos 0 *ℤ pos g ≡ pos 0 = zero-*ℤ (pos g) in omega (arith, ints, k, z)) in
    let high = times_most_back g (pos 0) n above (let k = e in let z : pos 0 *ℤ pos g ≡ pos 0 = zero-*ℤ (pos g) in omega (arith, ints, k, z)) in
    omega (arith, ints, low, high)
zero_at (n ∷ ns) g (suc x) above e = zero_at ns g x above e

-- ---- values that meet rows
-- The values are fractions over a denominator above 0, no number passes 2^126, the variables taken have 0 as yet, and
-- the rows are met.
pub record IsGood (vars : ℕ) (taken : List Taken) (rows : List Combination) (values : Values) : Type 0 where
  pub count : length values.nums ≡ vars
  pub above : pos 0 <ℤ values.den
  pub small : unsigned_abs values.den ≤ 2 ^ 126
  pub nums_small : All (λ n. unsigned_abs n ≤ 2 ^ 126) values.nums
  pub none : (t : Taken) → Contains taken t → get_or values.nums t.variable (pos 0) ≡ pos 0
  pub met : (row : Combination) → Contains rows row → value values.den values.nums row ≤ℤ pos 0

-- the rows have a coefficient for each variable, and 0 of those that were taken
pub record Fits (vars : ℕ) (taken : List Taken) (rows : List Combination) : Type 0 where
  pub size : (row : Combination) → Contains rows row → length row.coefficients ≡ vars
  pub gone : (row : Combination) → Contains rows row → (t : Taken) → Contains taken t → at t.variable row ≡ pos 0

above_scaled : (d d' : ℤ) (g : ℕ) → 0 < g → d' *ℤ pos g ≡ d → pos 0 <ℤ d → pos 0 <ℤ d'
above_scaled d (pos zero) g above e h = absurd (let z : pos 0 *ℤ pos g ≡ pos 0 = zero-*ℤ (pos g) in omega (arith, ints, e, h, z))
above_scaled d (pos (suc n)) g above e h = omega (arith, ints)
above_scaled d (negsuc n) g above e h =
    let low = times_most g (negsuc n) (pos 0) (omega (arith, ints)) in absurd (omega (arith, ints, e, h, low, zero-*ℤ (pos g)))

good_lowest : (vars : ℕ) (taken : List Taken) (rows : List Combination) (old : Values) → IsGood vars taken rows old → IsGood vars taken rows (lowest old)
good_lowest vars taken rows old good =
    let found = lowest_is old in
    let g = found.0 in let is = found.1 in let new = lowest old in
    record {
      count = sym (length-map new.nums (λ n. n *ℤ pos g)) ∙ ap length is.nums ∙ good.count;
      above = above_scaled old.den new.den g is.above is.den good.above;
      small = smaller new.den old.den g (2 ^ 126) is.above is.den good.small;
      nums_small = all_smaller new.nums old.nums g (2 ^ 126) is.above is.nums good.nums_small;
      none = λ t h. zero_at new.nums g t.variable is.above (ap (λ ns. get_or ns t.variable (pos 0)) is.nums ∙ good.none t h);
      met = λ row h.
          let whole : value new.den new.nums row *ℤ pos g ≡ value old.den old.nums row =
          add-mul (dot row.coefficients new.nums) (row.constant *ℤ new.den) (pos g)
          ∙ ap (λ x. x +ℤ ((row.constant *ℤ new.den) *ℤ pos g)) (sym (dot-scaled row.coefficients new.nums (pos g)) ∙ ap (dot row.coefficients) is.nums)
          ∙ ap (λ x. dot row.coefficients old.nums +ℤ x) (mul_assoc row.constant new.den (pos g) ∙ ap (λ x. row.constant *ℤ x) is.den) in
          let low = good.met row h in
          times_most_back g (value new.den new.nums row) (pos 0) is.above (let z : pos 0 *ℤ pos g ≡ pos 0 = zero-*ℤ (pos g) in omega (arith, ints, whole, low, z));
    }

scaled_small : (limit : ℕ) (ns : List ℤ) (w : ℤ) (zs : List ℤ) → checked_scaled limit ns w ≡ fits zs → All (λ n. unsigned_abs n ≤ limit) zs
scaled_small limit [] w zs e = All-same (λ n. unsigned_abs n ≤ limit) zs [] (sym (lists_same [] zs e)) (All-nil (λ n. unsigned_abs n ≤ limit))
  where
    lists_same : (a b : List ℤ) → fits a ≡ fits b → a ≡ b
    lists_same a b f = cc
scaled_small limit (n ∷ ns) w zs e =
    let first = and_then_fits (checked_product limit n w) (λ y. and_then (checked_map (λ k. checked_product limit k w) ns) (λ ys. fits (y ∷ ys))) zs e in
    let second = and_then_fits (checked_map (λ k. checked_product limit k w) ns) (λ ys. fits (first.0 ∷ ys)) zs first.2 in
    All-same (λ k. unsigned_abs k ≤ limit) zs (first.0 ∷ second.0) (sym (lists_same (first.0 ∷ second.0) zs second.2))
    (All-cons (λ k. unsigned_abs k ≤ limit) first.0 second.0 (within_small limit n w (n *ℤ w) first.0 first.1) (scaled_small limit ns w second.0 second.1))
  where
    lists_same : (a b : List ℤ) → fits a ≡ fits b → a ≡ b
    lists_same a b f = cc

-- which side a row is on
pub data Side (v : ℕ) (row : Combination) : Type 0 where
  on_plus : is_plus v row ≡ true → Side v row
  on_minus : is_minus v row ≡ true → Side v row
  on_rest : is_rest v row ≡ true → Side v row

pub side_of : (v : ℕ) (row : Combination) → Side v row
side_of v row = sided (at v row) refl
  where
    rest_zero : (z : ℤ) → z ≡ pos 0 → is_zero z ≡ true
    rest_zero z e = ap is_zero e

    sided : (z : ℤ) → at v row ≡ z → Side v row
    sided (pos zero) e = on_rest (ap is_zero e)
    sided (pos (suc n)) e = on_plus (ap (int_lt (pos 0)) e ∙ le-leb 1 (suc n) (omega arith))
    sided (negsuc n) e = on_minus (ap (λ z. int_lt z (pos 0)) e)

-- the step back
stepped_back : (vars v : ℕ) (taken : List Taken) (tidy new : List Combination) (old : Values) (b : Bound) (next : Values) → Fits vars taken tidy → IsGood vars (taken_at v tidy ∷ taken) new old → next_rows v tidy ≡ fits new
    → ((t : Taken) → Contains taken t → t.variable ≢ v) → bound_of v old (filter (is_minus v) tidy) (filter (is_plus v) tidy) ≡ fits b → valued v old b ≡ fits next → IsGood vars taken tidy next
stepped_back vars v taken tidy new old b next sizes good is_new apart is_bound is_valued =
    let minus = filter (is_minus v) tidy in let plus = filter (is_plus v) tidy in
    let sides : AreSides v vars minus plus = record {
      minus_sign = λ row h. filter_true (is_minus v) tidy row h;
      plus_sign = λ row h. filter_true (is_plus v) tidy row h;
      minus_size = λ row h. sizes.size row (filter_within (is_minus v) tidy row h);
      plus_size = λ row h. sizes.size row (filter_within (is_plus v) tidy row h);
    } in
    let paired : ArePaired v old minus plus = λ p n h k. let pair = next_pairs v tidy new p n is_new h k in (pair.row, pair.combined, good.met pair.row pair.among) in
    let suit = suits v vars old minus plus b sides paired is_bound in
    let w = suit.factor in let u = b.numerator in
    let made : List ℤ → ℤ → Values = λ ns d. record { den = d; nums = set ns v u } in
    let first = and_then_fits (checked_scaled (2 ^ 126) old.nums b.factor) (λ ns. and_then (checked_product (2 ^ 126) old.den b.factor) (λ d. fits (lowest (made ns d)))) next is_valued in
    let second = and_then_fits (checked_product (2 ^ 126) old.den b.factor) (λ d. fits (lowest (made first.0 d))) next first.2 in
    let nums : first.0 ≡ map (λ n. n *ℤ pos w) old.nums = scaled_fits (2 ^ 126) old.nums b.factor first.0 first.1 ∙ ap (λ x. map (λ n. n *ℤ x) old.nums) suit.is in
    let den : second.0 ≡ old.den *ℤ pos w = within_fits (2 ^ 126) old.den b.factor (old.den *ℤ b.factor) second.0 second.1 ∙ ap (λ x. old.den *ℤ x) suit.is in
    let sized : length first.0 ≡ length old.nums = ap length nums ∙ length-map old.nums (λ n. n *ℤ pos w) in
    let own : get_or first.0 v (pos 0) ≡ pos 0 = ap (λ ns. get_or ns v (pos 0)) nums ∙ scaled_at old.nums (pos w) v (good.none (taken_at v tidy) (0, omega arith, refl)) in
    let P : ℤ → Type 0 = λ d. pos 0 <ℤ d in
    let here : IsGood vars taken tidy (made first.0 second.0) = record {
      count = length-set first.0 v u ∙ sized ∙ good.count;
      above = subst P (sym den) (mul_above old.den w good.above suit.above);
      small = within_small (2 ^ 126) old.den b.factor (old.den *ℤ b.factor) second.0 second.1;
      nums_small = All-set (λ n. unsigned_abs n ≤ 2 ^ 126) first.0 v u suit.small (scaled_small (2 ^ 126) old.nums b.factor first.0 first.1);
      none = λ t h.
          get_or-set_other first.0 v t.variable u (pos 0) (apart t h)
          ∙ ap (λ ns. get_or ns t.variable (pos 0)) nums ∙ scaled_at old.nums (pos w) t.variable (good.none t (further (taken_at v tidy) t taken h));
      met = λ row h.
          let whole = value_back old.den w v old.nums first.0 u second.0 row (sizes.size row h ∙ sym good.count ∙ sym sized) nums den own in
          let low : ((value old.den old.nums row *ℤ pos w) +ℤ (at v row *ℤ u)) ≤ℤ pos 0 = by_side row h (side_of v row) suit in
          let Q : ℤ → Type 0 = λ z. z ≤ℤ pos 0 in subst Q (sym whole) low;
    } in
    let Q : Values → Type 0 = IsGood vars taken tidy in
    subst Q (values_same (lowest (made first.0 second.0)) next second.2) (good_lowest vars taken tidy (made first.0 second.0) here)
  where
    values_same : (x y : Values) → fits x ≡ fits y → x ≡ y
    values_same x y e = cc

    by_side : (row : Combination) → Contains tidy row → Side v row → (suit : Suits v old (filter (is_minus v) tidy) (filter (is_plus v) tidy) b) → ((value old.den old.nums row *ℤ pos suit.factor) +ℤ (at v row *ℤ b.numerator)) ≤ℤ pos 0
    by_side row h (on_plus t) suit = suit.meets row (inr (filter_has (is_plus v) tidy row h t))
    by_side row h (on_minus t) suit = suit.meets row (inl (filter_has (is_minus v) tidy row h t))
    by_side row h (on_rest t) suit = rest_met (value old.den old.nums row) b.numerator (at v row) suit.factor (zero_is (at v row) t) (good.met row (next_rest v tidy new row is_new h t))

-- ---- the rounds
pub next_fits : (vars v : ℕ) (taken : List Taken) (tidy new : List Combination) → Fits vars taken tidy → next_rows v tidy ≡ fits new → Fits vars (taken_at v tidy ∷ taken) new
next_fits vars v taken tidy new sizes e = record {
  size = λ row h. ⊎_elim
      (λ (k : Contains tidy row × (is_rest v row ≡ true)). sizes.size row k.0)
      (λ (k : IsNew v tidy row). ap length k.combined.weighed.coefficients ∙ length-plain (pos k.combined.f) k.plus.coefficients (pos k.combined.g) k.minus.coefficients (sizes.size k.plus k.plus_among ∙ sym (sizes.size k.minus k.minus_among)) ∙ sizes.size k.plus k.plus_among)
      (next_from v tidy new row e h);
  gone = λ row h t k. ⊎_elim
      (λ (same : taken_at v tidy ≡ t). let P : Taken → Type 0 = λ x. at x.variable row ≡ pos 0 in subst P same (⊎_elim
      (λ (j : Contains tidy row × (is_rest v row ≡ true)). zero_is (at v row) j.1)
      (λ (j : IsNew v tidy row). left_out v j.plus j.minus row j.plus_test j.minus_test j.combined)
      (next_from v tidy new row e h)))
      (λ (old : Contains taken t). ⊎_elim
      (λ (j : Contains tidy row × (is_rest v row ≡ true)). sizes.gone row j.0 t old)
      (λ (j : IsNew v tidy row). stays_out t.variable v j.plus j.minus row (sizes.gone j.plus j.plus_among t old) (sizes.gone j.minus j.minus_among t old) j.combined)
      (next_from v tidy new row e h))
      (cases_cons (taken_at v tidy) t taken k);
}

pub fewer_fits : (vars : ℕ) (taken : List Taken) (now : List Combination) → Fits vars taken now → Fits vars taken (tidied now)
fewer_fits vars taken now sizes = record { size = λ row h. sizes.size row (tidied_within now row h); gone = λ row h. sizes.gone row (tidied_within now row h) }

dot_zeros : (cs ns : List ℤ) → list_all is_zero cs ≡ true → dot cs ns ≡ pos 0
dot_zeros [] ns e = refl
dot_zeros (c ∷ cs) [] e = refl
dot_zeros (c ∷ cs) (n ∷ ns) e =
    let parts = and_parts (is_zero c) (list_all is_zero cs) e in
    let a : c *ℤ n ≡ pos 0 = ap (λ x. x *ℤ n) (zero_is c parts.0) ∙ zero-*ℤ n in
    let b : dot cs ns ≡ pos 0 = dot_zeros cs ns parts.1 in
    omega (arith, ints, a, b)

-- a row without variables is met
plain_met : (now : List Combination) (den : ℤ) (nums : List ℤ) (row : Combination) → contradiction now ≡ None → Contains now row → has_variables row ≡ false → pos 0 <ℤ den → value den nums row ≤ℤ pos 0
plain_met now den nums row none h plain above =
    let zeros : list_all is_zero row.coefficients ≡ true = flip (list_all is_zero row.coefficients) plain in
    let no = no_contradiction now row none h in
    let constant : int_lt (pos 0) row.constant ≡ false = ap (λ b. not b && int_lt (pos 0) row.constant) (sym plain) ∙ no in
    let d : dot row.coefficients nums ≡ pos 0 = dot_zeros row.coefficients nums zeros in
    let low = mul_most den row.constant above (most row.constant constant) in
    omega (arith, ints, d, low, *ℤ_comm row.constant den)
  where
    flip : (b : Bool) → not b ≡ false → b ≡ true
    flip true e = refl
    flip false e = absurd (false≢true (sym e))

    most : (z : ℤ) → int_lt (pos 0) z ≡ false → z ≤ℤ pos 0
    most z e = grind (arith, ints)

    mul_most : (m x : ℤ) → pos 0 <ℤ m → x ≤ℤ pos 0 → (m *ℤ x) ≤ℤ pos 0
    mul_most m x a l = mul_at_most m x (omega (arith, ints)) l

times_above : (x y d : ℤ) → x ≤ℤ y → pos 0 <ℤ d → (x *ℤ d) ≤ℤ (y *ℤ d)
times_above x y (pos n) h above = times_most n x y h
times_above x y (negsuc n) h above = absurd (omega (arith, ints))

-- values that meet the tidied rows meet all of them
untidied : (vars : ℕ) (taken : List Taken) (now : List Combination) (values : Values) → contradiction now ≡ None → IsGood vars taken (tidied now) values → IsGood vars taken now values
untidied vars taken now values none good = record {
  count = good.count;
  above = good.above;
  small = good.small;
  nums_small = good.nums_small;
  none = good.none;
  met = λ row h. at_test row h (has_variables row) refl;
}
  where
    at_test : (row : Combination) → Contains now row → (b : Bool) → has_variables row ≡ b → value values.den values.nums row ≤ℤ pos 0
    at_test row h false e = plain_met now values.den values.nums row none h e good.above
    at_test row h true e =
        let c = tidied_covers now row h e in
        let low = good.met c.other c.among in
        let same : dot c.other.coefficients values.nums ≡ dot row.coefficients values.nums = ap (λ cs. dot cs values.nums) c.covers.same in
        let most = times_above row.constant c.other.constant values.den c.covers.most good.above in
        omega (arith, ints, low, same, most)

-- what goes before a point
pub record ReturnsTo (vars : ℕ) (taken : List Taken) (now : List Combination) (den : ℤ) (nums : List ℤ) : Type 0 where
  pub values : Values
  pub good : IsGood vars taken now values
  pub back : values_back values taken ≡ fits (record { den = den; nums = nums })

pub counted_has : (from n v : ℕ) → from ≤ v → v < from + n → Contains (counted from n) v
counted_has from zero v low high = absurd (omega arith)
counted_has from (suc n) v low high = ⊎_elim
    (λ (less : from < v). further from v (counted (suc from) n) (counted_has (suc from) n v (omega arith) (omega arith)))
    (λ (most : v ≤ from). (0, omega arith, omega arith))
    (cases_lt from v)

all_zero : (cs : List ℤ) (vars : ℕ) → length cs ≡ vars → ((v : ℕ) → v < vars → get_or cs v (pos 0) ≡ pos 0) → list_all is_zero cs ≡ true
all_zero [] vars e h = refl
all_zero (c ∷ cs) zero e h = absurd (omega arith)
all_zero (c ∷ cs) (suc n) e h = both (is_zero c) (list_all is_zero cs) (ap is_zero (h 0 (omega arith))) (all_zero cs n (omega arith) (λ v l. h (suc v) (omega arith)))
  where
    both : (a b : Bool) → a ≡ true → b ≡ true → (a && b) ≡ true
    both a b x y = ap (λ k. k && b) x ∙ y

-- if no variable is left, no row is
nothing_left : (vars : ℕ) (taken : List Taken) (now : List Combination) (row : Combination) → Fits vars taken (tidied now) → choice_from (tidied now) None (counted 0 vars) ≡ None → Contains (tidied now) row → ⊥
nothing_left vars taken now row sizes none h =
    let zeros : list_all is_zero row.coefficients ≡ true = all_zero row.coefficients vars (sizes.size row h)
    (λ v below. zero_is (at v row) (all_at (is_rest v) (tidied now) row (choice_none (tidied now) None (counted 0 vars) v none (counted_has 0 vars v (omega arith) (omega arith))) h)) in
    false≢true (sym (ap not zeros) ∙ tidied_has now row h)

start_good : (vars : ℕ) (taken : List Taken) (rows : List Combination) → ((row : Combination) → Contains rows row → ⊥) → IsGood vars taken rows (record { den = pos 1; nums = replicate vars (pos 0) })
start_good vars taken rows empty = record {
  count = length-replicate {A = ℤ} vars (pos 0);
  above = omega (arith, ints);
  small = omega arith;
  nums_small = All-replicate (λ n. unsigned_abs n ≤ 2 ^ 126) vars (pos 0) (omega arith);
  none = λ t h. zeros vars t.variable;
  met = λ row h. absurd (empty row h);
}
  where
    zeros : (n v : ℕ) → get_or (replicate n (pos 0)) v (pos 0) ≡ pos 0
    zeros zero v = refl
    zeros (suc n) zero = refl
    zeros (suc n) (suc v) = zeros n v

abbrev pub Onward : ℕ → (List Taken → List Combination → Solution) → Type 0
Onward vars onward = (taken : List Taken) (now : List Combination) (den : ℤ) (nums : List ℤ) → Fits vars taken now → onward taken now ≡ met_at den nums → ReturnsTo vars taken now den nums

met_same : (a b : ℤ) (ms ns : List ℤ) → met_at a ms ≡ met_at b ns → (a ≡ b) × (ms ≡ ns)
met_same a b ms ns e = ((cc), (cc))

pub chosen_apart : (vars v : ℕ) (taken : List Taken) (tidy : List Combination) → Fits vars taken tidy → choice_from tidy None (counted 0 vars) ≡ Some v → (t : Taken) → Contains taken t → t.variable ≢ v
chosen_apart vars v taken tidy sizes e t h same = ⊎_elim
    (λ (k : None ≡ Some v). none_some k)
    (λ (k : Contains (counted 0 vars) v × (list_all (is_rest v) tidy ≡ false)).
    let found = fails_at (is_rest v) tidy k.1 in
    let zero_there : at v found.row ≡ pos 0 = ap (λ x. at x found.row) (sym same) ∙ sizes.gone found.row found.among t h in
    false≢true (sym found.fails ∙ ap is_zero zero_there))
    (choice_some tidy None (counted 0 vars) v e)
  where
    none_some : None ≡ Some v → ⊥
    none_some k = cc

point_back : (vars : ℕ) (taken : List Taken) (now : List Combination) (den : ℤ) (nums : List ℤ) (p : Checked Values) → point_of vars taken ≡ p → Fits vars taken (tidied now) → choice_from (tidied now) None (counted 0 vars) ≡ None → answer_point p ≡ met_at den nums → ReturnsTo vars taken (tidied now) den nums
point_back vars taken now den nums (passes left right) is sizes none e = absurd (cc)
point_back vars taken now den nums (fits p) is sizes none e =
    let same = met_same p.den den p.nums nums e in
    let whole : ◌≡◌ {A = Values} p (record { den = den; nums = nums }) = λ i. record { den = same.0 i; nums = same.1 i } in
    record {
      values = record { den = pos 1; nums = replicate vars (pos 0) };
      good = start_good vars taken (tidied now) (λ row h. nothing_left vars taken now row sizes none h);
      back = is ∙ ap fits whole;
    }

next_back : (vars v : ℕ) (taken : List Taken) (tidy new : List Combination) (den : ℤ) (nums : List ℤ) → Fits vars taken tidy → choice_from tidy None (counted 0 vars) ≡ Some v → next_rows v tidy ≡ fits new → ReturnsTo vars (taken_at v tidy ∷ taken) new den nums → ReturnsTo vars taken tidy den nums
next_back vars v taken tidy new den nums sizes choice is_new returned =
    let old = returned.values in let minus = filter (is_minus v) tidy in let plus = filter (is_plus v) tidy in
    let first = and_then_fits (bound_of v old minus plus) (λ b. and_then (valued v old b) (λ more. values_back more taken)) (record { den = den; nums = nums }) returned.back in
    let second = and_then_fits (valued v old first.0) (λ more. values_back more taken) (record { den = den; nums = nums }) first.2 in
    record {
      values = second.0;
      good = stepped_back vars v taken tidy new old first.0 second.0 sizes returned.good is_new (chosen_apart vars v taken tidy sizes choice) first.1 second.1;
      back = second.2;
    }

go_back : (vars v : ℕ) (taken : List Taken) (tidy : List Combination) (den : ℤ) (nums : List ℤ) (onward : List Combination → Solution) (new : Checked (List Combination)) → Fits vars taken tidy → choice_from tidy None (counted 0 vars) ≡ Some v → next_rows v tidy ≡ new
    → ((rows : List Combination) → Fits vars (taken_at v tidy ∷ taken) rows → onward rows ≡ met_at den nums → ReturnsTo vars (taken_at v tidy ∷ taken) rows den nums) → go_on onward new ≡ met_at den nums → ReturnsTo vars taken tidy den nums
go_back vars v taken tidy den nums onward (passes left right) sizes choice is on e = absurd (cc)
go_back vars v taken tidy den nums onward (fits rows) sizes choice is on e = next_back vars v taken tidy rows den nums sizes choice is (on rows (next_fits vars v taken tidy rows sizes is) e)

if_back : (b : Bool) (i j k : ℕ) (x : Solution) (den : ℤ) (nums : List ℤ) → (if b then crowded i j k else x) ≡ met_at den nums → x ≡ met_at den nums
if_back true i j k x den nums e = absurd (cc)
if_back false i j k x den nums e = e

step_back : (vars : ℕ) (taken : List Taken) (now : List Combination) (onward : List Taken → List Combination → Solution) (o : Option ℕ) (den : ℤ) (nums : List ℤ) → choice_from (tidied now) None (counted 0 vars) ≡ o → Fits vars taken (tidied now) → Onward vars onward → step vars taken (tidied now) onward o ≡ met_at den nums → ReturnsTo vars taken (tidied now) den nums
step_back vars taken now onward None den nums is sizes on e = point_back vars taken now den nums (point_of vars taken) refl sizes is e
step_back vars taken now onward (Some v) den nums is sizes on e =
    let tidy = tidied now in
    go_back vars v taken tidy den nums (onward (taken_at v tidy ∷ taken)) (next_rows v tidy) sizes is refl (λ rows fit f. on (taken_at v tidy ∷ taken) rows den nums fit f)
    (if_back (nat_lt 20_000 (pairs v tidy + count_by (is_rest v) tidy)) (count_by (is_plus v) tidy) (count_by (is_minus v) tidy) (count_by (is_rest v) tidy) (go_on (onward (taken_at v tidy ∷ taken)) (next_rows v tidy)) den nums e)

begin_back : (vars : ℕ) (taken : List Taken) (now : List Combination) (onward : List Taken → List Combination → Solution) (o : Option (List ℤ)) (den : ℤ) (nums : List ℤ) → contradiction now ≡ o → Fits vars taken now → Onward vars onward → begin vars taken now onward o ≡ met_at den nums → ReturnsTo vars taken now den nums
begin_back vars taken now onward (Some ms) den nums is sizes on e = absurd (cc)
begin_back vars taken now onward None den nums is sizes on e =
    let returned = step_back vars taken now onward (choice_from (tidied now) None (counted 0 vars)) den nums refl (fewer_fits vars taken now sizes) on e in
    record { values = returned.values; good = untidied vars taken now returned.values is returned.good; back = returned.back }

pub rounds_back : (vars more : ℕ) → Onward vars (rounds more vars)
rounds_back vars zero taken now den nums sizes e = absurd (cc)
rounds_back vars (suc more) taken now den nums sizes e = begin_back vars taken now (rounds more vars) (contradiction now) den nums refl sizes (rounds_back vars more) e
