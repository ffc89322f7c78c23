-- The given rows and their combinations, at a point.
use Rattle.std.proofs.Common.{◌≡◌, ℕ, zero, suc, ◌+◌, ◌-◌, ◌<◌, ◌≤◌, ◌^◌, ℤ, pos, negsuc, ◌+ℤ◌, ◌*ℤ◌, ◌≤ℤ◌, ◌<ℤ◌, unsigned_abs, List, [], ◌∷◌, All, Contains, map, length, get_or, ⊎_elim, refl, sym, ap, ◌∙◌, subst, arith}
use Rattle.std.proofs.Math.IntN.{zero-*ℤ}
use Rattle.std.proofs.lemmas.Int.{ints}
use Rattle.std.proofs.lemmas.Bool.{cases_lt}
use Rattle.std.proofs.lemmas.List.Elements.{All-head, All-tail}
use Rattle.kat_linear.specs.Rows.{Form, Term, coefficient_in, term_sum, scaled_value}
use Rattle.kat_linear.proofs.Integers.{add-mul}
use Rattle.kat_linear.proofs.Totals.{part_of, part_at, part_apart}
use Rattle.kat_fm.specs.Limits.Checked.{fits}
use Rattle.kat_fm.specs.Combinations.{counted, given_at, given_from, given}
use Rattle.kat_fm.specs.Points.{Values}
use Rattle.kat_fm.specs.Eliminations.{elim_of}
use Rattle.kat_fm.specs.Laws.{PointsMeet}
use Rattle.kat_fm.proofs.Tracks.{dot}
use Rattle.kat_fm.proofs.Combinations.{value}
use Rattle.kat_fm.proofs.Certificates.{in_nothing, behind as further, given_tracked}
use Rattle.kat_fm.proofs.Returns.{Fits, rounds_back}

dot-add : (f g : ℕ → ℤ) (vs : List ℕ) (ns : List ℤ) → dot (map (λ v. f v +ℤ g v) vs) ns ≡ dot (map f vs) ns +ℤ dot (map g vs) ns
dot-add f g [] ns = refl
dot-add f g (v ∷ vs) [] = refl
dot-add f g (v ∷ vs) (n ∷ ns) = rw (dot-add f g vs ns, add-mul (f v) (g v) n) (omega (arith, ints))

dot-none : (vs : List ℕ) (ns : List ℤ) → dot (map (λ v. pos 0) vs) ns ≡ pos 0
dot-none [] ns = refl
dot-none (v ∷ vs) [] = refl
dot-none (v ∷ vs) (n ∷ ns) = let a : pos 0 *ℤ n ≡ pos 0 = zero-*ℤ n in let b : dot (map (λ u. pos 0) vs) ns ≡ pos 0 = dot-none vs ns in omega (arith, ints, a, b)

-- one term's part, past its variable and up to it
dot-past : (t : Term) (from n : ℕ) (ns : List ℤ) → t.0 < from → dot (map (λ v. part_of t v) (counted from n)) ns ≡ pos 0
dot-past t from zero ns h = refl
dot-past t from (suc n) [] h = refl
dot-past t from (suc n) (x ∷ ns) h =
    let a : part_of t from *ℤ x ≡ pos 0 = ap (λ c. c *ℤ x) (part_apart t from (λ e. omega arith)) ∙ zero-*ℤ x in
    let b : dot (map (λ v. part_of t v) (counted (suc from) n)) ns ≡ pos 0 = dot-past t (suc from) n ns (omega arith) in
    omega (arith, ints, a, b)

dot-part : (t : Term) (from n : ℕ) (ns : List ℤ) → from ≤ t.0 → t.0 < from + n → length ns ≡ n → dot (map (λ v. part_of t v) (counted from n)) ns ≡ t.1 *ℤ get_or ns (t.0 - from) (pos 0)
dot-part t from zero ns low high e = absurd (omega arith)
dot-part t from (suc n) [] low high e = absurd (omega arith)
dot-part t from (suc n) (x ∷ ns) low high e = ⊎_elim
    (λ (less : from < t.0).
    let a : part_of t from *ℤ x ≡ pos 0 = ap (λ c. c *ℤ x) (part_apart t from (λ k. omega arith)) ∙ zero-*ℤ x in
    let b : dot (map (λ v. part_of t v) (counted (suc from) n)) ns ≡ t.1 *ℤ get_or ns (t.0 - suc from) (pos 0) = dot-part t (suc from) n ns (omega arith) (omega arith) (omega arith) in
    let one : t.0 - from ≡ suc (t.0 - suc from) = omega arith in
    let d : t.1 *ℤ get_or (x ∷ ns) (t.0 - from) (pos 0) ≡ t.1 *ℤ get_or ns (t.0 - suc from) (pos 0) = ap (λ k. t.1 *ℤ get_or (x ∷ ns) k (pos 0)) one in
    omega (arith, ints, a, b, d))
    (λ (most : t.0 ≤ from).
    let here : t.0 ≡ from = omega arith in
    let a : part_of t from *ℤ x ≡ t.1 *ℤ x = ap (λ c. c *ℤ x) (part_at t from here) in
    let b : dot (map (λ v. part_of t v) (counted (suc from) n)) ns ≡ pos 0 = dot-past t (suc from) n ns (omega arith) in
    let zero_off : t.0 - from ≡ 0 = omega arith in
    let d : t.1 *ℤ get_or (x ∷ ns) (t.0 - from) (pos 0) ≡ t.1 *ℤ x = ap (λ k. t.1 *ℤ get_or (x ∷ ns) k (pos 0)) zero_off in
    omega (arith, ints, a, b, d))
    (cases_lt from t.0)

-- the terms' sum, by variable
dot-terms : (ts : List Term) (vars : ℕ) (ns : List ℤ) → All (λ (t : Term). t.0 < vars) ts → length ns ≡ vars → dot (map (λ v. coefficient_in ts v) (counted 0 vars)) ns ≡ term_sum (λ v. get_or ns v (pos 0)) ts
dot-terms [] vars ns h e = dot-none (counted 0 vars) ns
dot-terms (t ∷ ts) vars ns h e =
    let rest : dot (map (λ v. coefficient_in ts v) (counted 0 vars)) ns ≡ term_sum (λ v. get_or ns v (pos 0)) ts = dot-terms ts vars ns (All-tail (λ (u : Term). u.0 < vars) t ts h) e in
    let part : dot (map (λ v. part_of t v) (counted 0 vars)) ns ≡ t.1 *ℤ get_or ns (t.0 - 0) (pos 0) = dot-part t 0 vars ns (omega arith) (let low = All-head (λ (u : Term). u.0 < vars) t ts h in omega arith) e in
    let zero_off : t.0 - 0 ≡ t.0 = omega arith in
    let here : t.1 *ℤ get_or ns (t.0 - 0) (pos 0) ≡ t.1 *ℤ get_or ns t.0 (pos 0) = ap (λ k. t.1 *ℤ get_or ns k (pos 0)) zero_off in
    dot-add (λ v. part_of t v) (λ v. coefficient_in ts v) (counted 0 vars) ns ∙ rw (part, rest, here) refl

-- each given row is among those that elimination begins with
given_has : (vars count place : ℕ) (forms : List Form) (k : ℕ) (d : Form) → k < length forms → Contains (given_from vars count place forms) (given_at vars count (place + k) (get_or forms k d))
given_has vars count place [] k d h = absurd (omega arith)
given_has vars count place (form ∷ forms) zero d h = let e : place + 0 ≡ place = omega arith in (0, omega arith, ap (λ p. given_at vars count p form) (sym e))
given_has vars count place (form ∷ forms) (suc k) d h =
    let e : suc place + k ≡ place + suc k = omega arith in
    let P : ℕ → Type 0 = λ p. Contains (given_from vars count place (form ∷ forms)) (given_at vars count p (get_or forms k d)) in
    subst P e (further (given_at vars count place form) (given_at vars count (suc place + k) (get_or forms k d)) (given_from vars count (suc place) forms) (given_has vars count (suc place) forms k d (omega arith)))

abs_of : (d : ℤ) → pos 0 <ℤ d → d ≡ pos (unsigned_abs d)
abs_of (pos n) h = refl
abs_of (negsuc n) h = absurd (omega (arith, ints))

values_same : (x y : Values) → fits x ≡ fits y → x ≡ y
values_same x y e = cc

pub points_meet : PointsMeet
unfolding elim_of
points_meet forms vars den nums below e =
    let sizes : Fits vars [] (given vars forms) = record {
      size = λ row h. (given_tracked vars [] forms row h).size;
      gone = λ row h t k. absurd (in_nothing t k);
    } in
    let found = rounds_back vars (suc vars) [] (given vars forms) den nums sizes e in
    let same = values_same found.values (record { den = den; nums = nums }) found.back in
    let is_den : found.values.den ≡ den = ap (λ (v : Values). v.den) same in
    let is_nums : found.values.nums ≡ nums = ap (λ (v : Values). v.nums) same in
    let above : pos 0 <ℤ den = let P : ℤ → Type 0 = λ d. pos 0 <ℤ d in subst P is_den found.good.above in
    let count : length nums ≡ vars = sym (ap length is_nums) ∙ found.good.count in
    let Small : ℤ → Type 0 = λ d. unsigned_abs d ≤ 2 ^ 126 in
    let AreSmall : List ℤ → Type 0 = λ ns. All (λ n. unsigned_abs n ≤ 2 ^ 126) ns in
    record {
      above = above;
      count = count;
      small = subst Small is_den found.good.small;
      nums_small = subst AreSmall is_nums found.good.nums_small;
      met = λ k d h.
          let form = get_or forms k d in
          let low = found.good.met (given_at vars (length forms) (0 + k) form) (given_has vars (length forms) 0 forms k d h) in
          let whole : value found.values.den found.values.nums (given_at vars (length forms) (0 + k) form) ≡ scaled_value (unsigned_abs den) (λ v. get_or nums v (pos 0)) form =
          ap (λ (v : Values). value v.den v.nums (given_at vars (length forms) (0 + k) form)) same
          ∙ ap (λ x. x +ℤ form.constant *ℤ den) (dot-terms form.terms vars nums (below k d h) count)
          ∙ ap (λ x. term_sum (λ v. get_or nums v (pos 0)) form.terms +ℤ form.constant *ℤ x) (abs_of den above) in
          let P : ℤ → Type 0 = λ z. z ≤ℤ pos 0 in subst P whole low;
    }
