-- The bound that is kept is the best of its rows.
use Rattle.std.proofs.Common.{◌≡◌, ℕ, ◌<◌, ◌≤◌, ◌^◌, ℤ, pos, neg_ℤ, ◌+ℤ◌, ◌*ℤ◌, ◌≤ℤ◌, Bool, true, false, if◌then◌else◌, unsigned_abs, List, [], ◌∷◌, ◌++◌, Contains, ⊎_elim, refl, sym, ap, ◌∙◌, subst, arith, append_assoc}
use Rattle.std.specs.Prelude.{int_lt}
use Rattle.std.proofs.lemmas.Int.{ints}
use Rattle.std.proofs.lemmas.List.Elements.{Contains-push_cases, Contains-push, Contains-append_left}
use Rattle.std.proofs.lemmas.List.{append-nil}
use Rattle.kat_linear.proofs.Integers.{neg-mul}
use Rattle.kat_fm.specs.Limits.{and_then, checked_product, checked_sum, checked_dot}
use Rattle.kat_fm.specs.Limits.Checked.{fits}
use Rattle.kat_fm.specs.Combinations.{Combination, at}
use Rattle.kat_fm.specs.Points.{Values, Bound, sum_at, bound_at, better_bound, best_from, best_of}
use Rattle.kat_fm.proofs.Tracks.{dot}
use Rattle.kat_fm.proofs.Combinations.{and_then_fits, within_fits, within_small, value}
use Rattle.kat_fm.proofs.Certificates.{in_nothing, cases_cons}
use Rattle.kat_fm.proofs.Fractions.{most_trans}

fits_number : (a b : ℤ) → fits a ≡ fits b → a ≡ b
fits_number a b e = cc

fits_bound : (a b : Bound) → fits a ≡ fits b → a ≡ b
fits_bound a b e = cc

dot_fits : (limit : ℕ) (t : ℤ) (cs ns : List ℤ) (s : ℤ) → checked_dot limit t cs ns ≡ fits s → s ≡ t +ℤ dot cs ns
dot_fits limit t [] ns s e = let k : t ≡ s = fits_number t s e in omega (arith, ints, k)
dot_fits limit t (c ∷ cs) [] s e = let k : t ≡ s = fits_number t s e in omega (arith, ints, k)
dot_fits limit t (c ∷ cs) (n ∷ ns) s e =
    let first = and_then_fits (checked_product limit c n) (λ x. and_then (checked_sum limit t x) (λ y. checked_dot limit y cs ns)) s e in
    let second = and_then_fits (checked_sum limit t first.0) (λ y. checked_dot limit y cs ns) s first.2 in
    let x : first.0 ≡ c *ℤ n = within_fits limit c n (c *ℤ n) first.0 first.1 in
    let y : second.0 ≡ t +ℤ first.0 = within_fits limit t first.0 (t +ℤ first.0) second.0 second.1 in
    let rest : s ≡ second.0 +ℤ dot cs ns = dot_fits limit second.0 cs ns s second.2 in
    omega (arith, ints, x, y, rest)

-- the sum of a row at the point of these values
sum_fits : (values : Values) (row : Combination) (s : ℤ) → sum_at values row ≡ fits s → (s ≡ value values.den values.nums row) × (unsigned_abs s ≤ 2 ^ 126)
sum_fits values row s e =
    let first = and_then_fits (checked_dot (2 ^ 126) (pos 0) row.coefficients values.nums) (λ x. and_then (checked_product (2 ^ 126) row.constant values.den) (λ k. checked_sum (2 ^ 126) x k)) s e in
    let second = and_then_fits (checked_product (2 ^ 126) row.constant values.den) (λ k. checked_sum (2 ^ 126) first.0 k) s first.2 in
    let x : first.0 ≡ pos 0 +ℤ dot row.coefficients values.nums = dot_fits (2 ^ 126) (pos 0) row.coefficients values.nums first.0 first.1 in
    let y : second.0 ≡ row.constant *ℤ values.den = within_fits (2 ^ 126) row.constant values.den (row.constant *ℤ values.den) second.0 second.1 in
    let z : s ≡ first.0 +ℤ second.0 = within_fits (2 ^ 126) first.0 second.0 (first.0 +ℤ second.0) s second.2 in
    (omega (arith, ints, x, y, z), within_small (2 ^ 126) first.0 second.0 (first.0 +ℤ second.0) s second.2)

-- a lower bound's numerator, or an upper bound's with the other sign: at a row it is the row's sum
abbrev pub turned : Bool → ℤ → ℤ
turned lower u = if lower then u else neg_ℤ u

turned_twice : (lower : Bool) (s : ℤ) → turned lower (if lower then s else neg_ℤ s) ≡ s
turned_twice true s = refl
turned_twice false s = omega (arith, ints)

turned_small : (lower : Bool) (s : ℤ) (n : ℕ) → unsigned_abs s ≤ n → unsigned_abs (if lower then s else neg_ℤ s) ≤ n
turned_small true s n h = h
turned_small false s n h = omega (arith, ints)

-- the bound of a row
pub record IsBoundOf (lower : Bool) (v : ℕ) (values : Values) (row : Combination) (b : Bound) : Type 0 where
  pub sum : turned lower b.numerator ≡ value values.den values.nums row
  pub factor : b.factor ≡ pos (unsigned_abs (at v row))
  pub small : unsigned_abs b.numerator ≤ 2 ^ 126

bound_fits : (lower : Bool) (v : ℕ) (values : Values) (row : Combination) (b : Bound) → bound_at lower v values row ≡ fits b → IsBoundOf lower v values row b
bound_fits lower v values row b e =
    let made : ℤ → Bound = λ s. record { numerator = if lower then s else neg_ℤ s; factor = pos (unsigned_abs (at v row)) } in
    let first = and_then_fits (sum_at values row) (λ s. fits (made s)) b e in
    let is = sum_fits values row first.0 first.1 in
    let whole : made first.0 ≡ b = fits_bound (made first.0) b first.2 in
    let P : Bound → Type 0 = IsBoundOf lower v values row in
    subst P whole (record { sum = turned_twice lower first.0 ∙ is.0; factor = refl; small = turned_small lower first.0 (2 ^ 126) is.1 })

-- the bound is of one of the rows, and none of them has a better one
pub record IsBest (lower : Bool) (v : ℕ) (values : Values) (rows : List Combination) (b : Bound) : Type 0 where
  pub source : Combination
  pub among : Contains rows source
  pub of : IsBoundOf lower v values source b
  pub covers : (row : Combination) → Contains rows row → (value values.den values.nums row *ℤ pos (unsigned_abs (at v source))) ≤ℤ (turned lower b.numerator *ℤ pos (unsigned_abs (at v row)))

abbrev pub is_better_test : Bool → ℤ → ℤ → Bool
is_better_test lower l r = if lower then int_lt r l else int_lt l r

-- what the test tells, of a new bound n over a and the kept one k over b
test_true : (lower : Bool) (n k : ℤ) (a b : ℕ) → is_better_test lower (n *ℤ pos b) (k *ℤ pos a) ≡ true → (turned lower k *ℤ pos a) ≤ℤ (turned lower n *ℤ pos b)
test_true true n k a b e = less (k *ℤ pos a) (n *ℤ pos b) e
  where
    less : (x y : ℤ) → int_lt x y ≡ true → x ≤ℤ y
    less x y h = grind (arith, ints)
test_true false n k a b e = let h = less (n *ℤ pos b) (k *ℤ pos a) e in omega (arith, ints, h, neg-mul k (pos a), neg-mul n (pos b))
  where
    less : (x y : ℤ) → int_lt x y ≡ true → x ≤ℤ y
    less x y h = grind (arith, ints)

test_false : (lower : Bool) (n k : ℤ) (a b : ℕ) → is_better_test lower (n *ℤ pos b) (k *ℤ pos a) ≡ false → (turned lower n *ℤ pos b) ≤ℤ (turned lower k *ℤ pos a)
test_false true n k a b e = most (k *ℤ pos a) (n *ℤ pos b) e
  where
    most : (x y : ℤ) → int_lt x y ≡ false → y ≤ℤ x
    most x y h = grind (arith, ints)
test_false false n k a b e = let h = most (n *ℤ pos b) (k *ℤ pos a) e in omega (arith, ints, h, neg-mul k (pos a), neg-mul n (pos b))
  where
    most : (x y : ℤ) → int_lt x y ≡ false → y ≤ℤ x
    most x y h = grind (arith, ints)

push_last : (xs : List Combination) (x : Combination) → Contains (xs ++ x ∷ []) x
push_last xs x = Contains-push xs x

-- one more row
one_more : (lower : Bool) (v : ℕ) (values : Values) (done : List Combination) (row : Combination) (kept new : Bound) (best : Bound) (test : Bool)
    → 0 < unsigned_abs (at v row) → ((r : Combination) → Contains done r → 0 < unsigned_abs (at v r)) → IsBest lower v values done kept → IsBoundOf lower v values row new
    → is_better_test lower (new.numerator *ℤ kept.factor) (kept.numerator *ℤ new.factor) ≡ test → (if test then new else kept) ≡ best → IsBest lower v values (done ++ row ∷ []) best
one_more lower v values done row kept new best true above all is of t e =
    let a = unsigned_abs (at v row) in let b = unsigned_abs (at v is.source) in
    let told : is_better_test lower (new.numerator *ℤ pos b) (kept.numerator *ℤ pos a) ≡ true = ap (λ x. is_better_test lower (new.numerator *ℤ x) (kept.numerator *ℤ pos a)) (sym is.of.factor) ∙ ap (λ x. is_better_test lower (new.numerator *ℤ kept.factor) (kept.numerator *ℤ x)) (sym of.factor) ∙ t in
    let beats = test_true lower new.numerator kept.numerator a b told in
    let P : Bound → Type 0 = IsBest lower v values (done ++ row ∷ []) in
    subst P e (record {
      source = row;
      among = push_last done row;
      of = of;
      covers = λ r h. ⊎_elim
          (λ (k : Contains done r). most_trans (value values.den values.nums r) (turned lower kept.numerator) (turned lower new.numerator) (unsigned_abs (at v r)) b a (all is.source is.among) (is.covers r k) beats)
          (λ (same : row ≡ r). let Q : Combination → Type 0 = λ x. (value values.den values.nums x *ℤ pos a) ≤ℤ (turned lower new.numerator *ℤ pos (unsigned_abs (at v x))) in
          subst Q same (let s = of.sum in let m : value values.den values.nums row *ℤ pos a ≡ turned lower new.numerator *ℤ pos a = ap (λ z. z *ℤ pos a) (sym s) in omega (arith, ints, m)))
          (Contains-push_cases done row r h);
    })
one_more lower v values done row kept new best false above all is of t e =
    let a = unsigned_abs (at v row) in let b = unsigned_abs (at v is.source) in
    let told : is_better_test lower (new.numerator *ℤ pos b) (kept.numerator *ℤ pos a) ≡ false = ap (λ x. is_better_test lower (new.numerator *ℤ x) (kept.numerator *ℤ pos a)) (sym is.of.factor) ∙ ap (λ x. is_better_test lower (new.numerator *ℤ kept.factor) (kept.numerator *ℤ x)) (sym of.factor) ∙ t in
    let stays = test_false lower new.numerator kept.numerator a b told in
    let P : Bound → Type 0 = IsBest lower v values (done ++ row ∷ []) in
    subst P e (record {
      source = is.source;
      among = Contains-append_left done (row ∷ []) is.source is.among;
      of = is.of;
      covers = λ r h. ⊎_elim
          (λ (k : Contains done r). is.covers r k)
          (λ (same : row ≡ r). let Q : Combination → Type 0 = λ x. (value values.den values.nums x *ℤ pos b) ≤ℤ (turned lower kept.numerator *ℤ pos (unsigned_abs (at v x))) in
          subst Q same (let m : value values.den values.nums row *ℤ pos b ≡ turned lower new.numerator *ℤ pos b = ap (λ z. z *ℤ pos b) (sym of.sum) in omega (arith, ints, m, stays)))
          (Contains-push_cases done row r h);
    })

best_along : (lower : Bool) (v : ℕ) (values : Values) (done : List Combination) (kept : Bound) (rows : List Combination) (b : Bound) → ((r : Combination) → Contains (done ++ rows) r → 0 < unsigned_abs (at v r)) → IsBest lower v values done kept → best_from lower v values kept rows ≡ fits b → IsBest lower v values (done ++ rows) b
best_along lower v values done kept [] b all is e =
    let same : done ++ [] ≡ done = append-nil done in
    let P : List Combination → Type 0 = λ rs. IsBest lower v values rs b in
    let Q : Bound → Type 0 = IsBest lower v values done in
    subst P (sym same) (subst Q (fits_bound kept b e) is)
best_along lower v values done kept (row ∷ rows) b all is e =
    let first = and_then_fits (bound_at lower v values row) (λ new. and_then (better_bound lower new kept) (λ best. best_from lower v values best rows)) b e in
    let new = first.0 in
    let second = and_then_fits (better_bound lower new kept) (λ best. best_from lower v values best rows) b first.2 in
    let best = second.0 in
    let third = and_then_fits (checked_product (2 ^ 126) new.numerator kept.factor) (λ l. and_then (checked_product (2 ^ 126) kept.numerator new.factor) (λ r. fits (if is_better_test lower l r then new else kept))) best second.1 in
    let fourth = and_then_fits (checked_product (2 ^ 126) kept.numerator new.factor) (λ r. fits (if is_better_test lower third.0 r then new else kept)) best third.2 in
    let l : third.0 ≡ new.numerator *ℤ kept.factor = within_fits (2 ^ 126) new.numerator kept.factor (new.numerator *ℤ kept.factor) third.0 third.1 in
    let r : fourth.0 ≡ kept.numerator *ℤ new.factor = within_fits (2 ^ 126) kept.numerator new.factor (kept.numerator *ℤ new.factor) fourth.0 fourth.1 in
    let picked : (if is_better_test lower (new.numerator *ℤ kept.factor) (kept.numerator *ℤ new.factor) then new else kept) ≡ best =
    ap (λ x. if is_better_test lower x (kept.numerator *ℤ new.factor) then new else kept) (sym l) ∙ ap (λ y. if is_better_test lower third.0 y then new else kept) (sym r) ∙ fits_bound (if is_better_test lower third.0 fourth.0 then new else kept) best fourth.2 in
    let assoc : (done ++ row ∷ []) ++ rows ≡ done ++ row ∷ rows = append_assoc done (row ∷ []) rows in
    let P : List Combination → Type 0 = λ rs. (x : Combination) → Contains rs x → 0 < unsigned_abs (at v x) in
    let all_too : P ((done ++ row ∷ []) ++ rows) = subst P (sym assoc) all in
    let here = one_more lower v values done row kept new best (is_better_test lower (new.numerator *ℤ kept.factor) (kept.numerator *ℤ new.factor))
    (all_too row (Contains-append_left (done ++ row ∷ []) rows row (push_last done row))) (λ x h. all x (Contains-append_left done (row ∷ rows) x h)) is (bound_fits lower v values row new first.1) refl picked in
    let Q : List Combination → Type 0 = λ rs. IsBest lower v values rs b in
    subst Q assoc (best_along lower v values (done ++ row ∷ []) best rows b all_too here second.2)

pub best_is : (lower : Bool) (v : ℕ) (values : Values) (row : Combination) (rows : List Combination) (b : Bound) → ((r : Combination) → Contains (row ∷ rows) r → 0 < unsigned_abs (at v r)) → best_of lower v values (row ∷ rows) ≡ fits b → IsBest lower v values (row ∷ rows) b
best_is lower v values row rows b all e =
    let first = and_then_fits (bound_at lower v values row) (λ k. best_from lower v values k rows) b e in
    let of = bound_fits lower v values row first.0 first.1 in
    best_along lower v values (row ∷ []) first.0 rows b all
    (record {
      source = row;
      among = (0, omega arith, refl);
      of = of;
      covers = λ r h. ⊎_elim
          (λ (same : row ≡ r). let Q : Combination → Type 0 = λ x. (value values.den values.nums x *ℤ pos (unsigned_abs (at v row))) ≤ℤ (turned lower first.0.numerator *ℤ pos (unsigned_abs (at v x))) in
          subst Q same (let m : value values.den values.nums row *ℤ pos (unsigned_abs (at v row)) ≡ turned lower first.0.numerator *ℤ pos (unsigned_abs (at v row)) = ap (λ z. z *ℤ pos (unsigned_abs (at v row))) (sym of.sum) in omega (arith, ints, m)))
          (λ (k : Contains [] r). absurd (in_nothing r k))
          (cases_cons row r [] h);
    }) first.2
