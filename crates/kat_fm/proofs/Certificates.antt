-- Each row of each round is tracked, so the multipliers of a contradiction are a certificate.
use Rattle.std.proofs.Common.{◌≡◌, ℕ, zero, suc, ◌+◌, ◌<◌, ◌≤◌, ℤ, pos, ◌*ℤ◌, ◌≤ℤ◌, ◌<ℤ◌, int_lt, nat_lt, unsigned_abs, ◌^◌, List, [], ◌∷◌, ◌++◌, length, map, filter, count_by, get_or, replicate, Bool, true, false, ◌&&◌, ◌||◌, not, if◌then◌else◌, ◌⊎◌, inl, inr, ⊎_elim, Option, Some, None, refl, sym, ap, ◌∙◌, subst, arith, Contains, All, append_assoc}
use Rattle.std.proofs.Math.IntN.{zero-*ℤ, *ℤ-zero, *ℤ_comm}
use Rattle.kat_linear.proofs.Integers.{mul_one}
use Rattle.std.proofs.lemmas.Bool.{false≢true, cases_lt}
use Rattle.std.specs.List.{list_any, list_all}
use Rattle.std.proofs.lemmas.Int.{ints}
use Rattle.std.proofs.lemmas.List.{length-map, length_push, length-replicate, length-set}
use Rattle.std.proofs.lemmas.List.Elements.{All-head, All-tail, All-set, All-replicate, All-weaker, Contains-append_cases}
use Rattle.kat_linear.specs.Rows.{Form, coefficient, Term, coefficient_in}
use Rattle.kat_linear.specs.Sums.{combined, IsCertificate}
use Rattle.kat_fm.specs.Limits.{Checked, and_then, checked_map}
use Rattle.kat_fm.specs.Limits.Checked.{fits, passes}
use Rattle.kat_fm.specs.Combinations.{Combination, combination_of, counted, unit_at, given_from, given}
use Rattle.kat_fm.specs.Points.{Taken, Values, point_of}
use Rattle.kat_fm.specs.Eliminations.{Solution, contradiction, strongest, tidied, is_plus, is_minus, is_rest, pairs, choice_from, couples, next_rows, taken_at, answer_point, go_on, step, begin, rounds, elim_of}
use Rattle.kat_fm.specs.Comparisons.{is_zero, has_variables, covers, exceeds}
use Rattle.kat_fm.specs.Eliminations.Solution.{refuted_by, crowded}
use Rattle.kat_linear.proofs.Totals.{part_apart}
use Rattle.kat_fm.specs.Answers.{HasVariablesBelow}
use Rattle.kat_fm.specs.Laws.{Refutes, MultipliersRefute}
use Rattle.kat_fm.proofs.Tracks.{IsTracked}
use Rattle.kat_fm.proofs.Combinations.{and_then_fits, combinations_tracked}

pub in_nothing : {A : Type 0} (y : A) → Contains [] y → ⊥
in_nothing y has = omega (arith, has.1)

pub cases_cons : {A : Type 0} (x y : A) (xs : List A) → Contains (x ∷ xs) y → (x ≡ y) ⊎ Contains xs y
cases_cons x y xs (zero, h, is) = inl is
cases_cons x y xs (suc j, h, is) = inr (j, omega arith, is)

pub behind : {A : Type 0} (x y : A) (xs : List A) → Contains xs y → Contains (x ∷ xs) y
behind x y xs has = (suc has.0, omega (arith, has.1), has.2)

-- rows that are all tracked
abbrev pub AreTracked : List Form → ℕ → List Combination → Type 0
AreTracked forms vars rows = (row : Combination) → Contains rows row → IsTracked forms vars row

if_has : (b : Bool) (x y : Combination) (rest : List Combination) → Contains (if b then x ∷ rest else rest) y → (x ≡ y) ⊎ Contains rest y
if_has true x y rest h = cases_cons x y rest h
if_has false x y rest h = inr h

pub filter_within : (test : Combination → Bool) (rows : List Combination) (x : Combination) → Contains (filter test rows) x → Contains rows x
filter_within test [] x h = h
filter_within test (r ∷ rs) x h = ⊎_elim
    (λ (e : r ≡ x). (0, omega arith, e))
    (λ (k : Contains (filter test rs) x). behind r x rs (filter_within test rs x k))
    (if_has (test r) r x (filter test rs) h)

kept_has : (b : Bool) (x y : Combination) (rest : List Combination) → Contains ((if b then [] else x ∷ []) ++ rest) y → (x ≡ y) ⊎ Contains rest y
kept_has true x y rest h = inr h
kept_has false x y rest h = cases_cons x y rest h

pub strongest_within : (before rows : List Combination) (x : Combination) → Contains (strongest before rows) x → Contains rows x
strongest_within before [] x h = h
strongest_within before (r ∷ rs) x h = ⊎_elim
    (λ (e : r ≡ x). (0, omega arith, e))
    (λ (k : Contains (strongest (before ++ r ∷ []) rs) x). behind r x rs (strongest_within (before ++ r ∷ []) rs x k))
    (kept_has (list_any (λ other. covers other r) before || list_any (λ other. exceeds other r) rs) r x (strongest (before ++ r ∷ []) rs) h)

fits_rows : (a b : List Combination) → fits a ≡ fits b → a ≡ b
fits_rows a b e = cc

tracked_along : (forms : List Form) (vars : ℕ) (a b : List Combination) → a ≡ b → AreTracked forms vars a → AreTracked forms vars b
tracked_along forms vars a b e h = let P : List Combination → Type 0 = AreTracked forms vars in subst P e h

map_tracked : (forms : List Form) (vars v : ℕ) (xs : List (Combination × Combination)) (new : List Combination) → ((x : Combination × Combination) → Contains xs x → IsTracked forms vars x.0 × IsTracked forms vars x.1) → checked_map (λ (x : Combination × Combination). combination_of v x.0 x.1) xs ≡ fits new → AreTracked forms vars new
map_tracked forms vars v [] new t e = tracked_along forms vars [] new (fits_rows [] new e) (λ row h. absurd (in_nothing row h))
map_tracked forms vars v (x ∷ xs) new t e =
    let f : Combination × Combination → Checked Combination = λ x. combination_of v x.0 x.1 in
    let first = and_then_fits (f x) (λ row. and_then (checked_map f xs) (λ rows. fits (row ∷ rows))) new e in
    let second = and_then_fits (checked_map f xs) (λ rows. fits (first.0 ∷ rows)) new first.2 in
    let both = t x (0, omega arith, refl) in
    let here : IsTracked forms vars first.0 = combinations_tracked forms vars v x.0 x.1 first.0 both.0 both.1 first.1 in
    let rest : AreTracked forms vars second.0 = map_tracked forms vars v xs second.0 (λ y h. t y (behind x y xs h)) second.1 in
    tracked_along forms vars (first.0 ∷ second.0) new (fits_rows (first.0 ∷ second.0) new second.2)
    (λ row h. ⊎_elim (λ (same : first.0 ≡ row). let P : Combination → Type 0 = IsTracked forms vars in subst P same here) (rest row) (cases_cons first.0 row second.0 h))

pub map_within : (p : Combination) (ns : List Combination) (x : Combination × Combination) → Contains (map (λ n. (p, n)) ns) x → (p ≡ x.0) × Contains ns x.1
map_within p [] x h = absurd (in_nothing x h)
map_within p (n ∷ ns) x h = ⊎_elim
    (λ (e : (p, n) ≡ x). (ap (λ (y : Combination × Combination). y.0) e, (0, omega arith, ap (λ (y : Combination × Combination). y.1) e)))
    (λ (k : Contains (map (λ n. (p, n)) ns) x). let more = map_within p ns x k in (more.0, behind n x.1 ns more.1))
    (cases_cons (p, n) x (map (λ n. (p, n)) ns) h)

pub couples_within : (ps ns : List Combination) (x : Combination × Combination) → Contains (couples ps ns) x → Contains ps x.0 × Contains ns x.1
couples_within [] ns x h = absurd (in_nothing x h)
couples_within (p ∷ ps) ns x h = ⊎_elim
    (λ (k : Contains (map (λ n. (p, n)) ns) x). let more = map_within p ns x k in ((0, omega arith, more.0), more.1))
    (λ (k : Contains (couples ps ns) x). let more = couples_within ps ns x k in (behind p x.0 ps more.0, more.1))
    (Contains-append_cases (map (λ n. (p, n)) ns) (couples ps ns) x h)

pub next_tracked : (forms : List Form) (vars v : ℕ) (rows new : List Combination) → AreTracked forms vars rows → next_rows v rows ≡ fits new → AreTracked forms vars new
next_tracked forms vars v rows new t e =
    let first = and_then_fits (checked_map (λ (x : Combination × Combination). combination_of v x.0 x.1) (couples (filter (is_plus v) rows) (filter (is_minus v) rows))) (λ more. fits (filter (is_rest v) rows ++ more)) new e in
    let rest : AreTracked forms vars first.0 = map_tracked forms vars v (couples (filter (is_plus v) rows) (filter (is_minus v) rows)) first.0
    (λ x h. let both = couples_within (filter (is_plus v) rows) (filter (is_minus v) rows) x h in (t x.0 (filter_within (is_plus v) rows x.0 both.0), t x.1 (filter_within (is_minus v) rows x.1 both.1))) first.1 in
    tracked_along forms vars (filter (is_rest v) rows ++ first.0) new (fits_rows (filter (is_rest v) rows ++ first.0) new first.2)
    (λ row h. ⊎_elim (λ (k : Contains (filter (is_rest v) rows) row). t row (filter_within (is_rest v) rows row k)) (rest row) (Contains-append_cases (filter (is_rest v) rows) first.0 row h))

-- the row of a contradiction
pub record Contradicts (forms : List Form) (vars : ℕ) (ms : List ℤ) : Type 0 where
  pub row : Combination
  pub tracked : IsTracked forms vars row
  pub none : list_all is_zero row.coefficients ≡ true
  pub above : int_lt (pos 0) row.constant ≡ true
  pub is : row.multipliers ≡ ms

some_list : (a b : List ℤ) → Some a ≡ Some b → a ≡ b
some_list a b e = cc

pub and_parts : (a b : Bool) → (a && b) ≡ true → (a ≡ true) × (b ≡ true)
and_parts true b e = (refl, e)
and_parts false b e = absurd (false≢true e)

pub not_not : (b : Bool) → not (not b) ≡ true → b ≡ true
not_not true e = refl
not_not false e = absurd (false≢true e)

contradicts_at : (forms : List Form) (vars : ℕ) (r : Combination) (rs : List Combination) (ms : List ℤ) (b : Bool) → b ≡ (not (has_variables r) && int_lt (pos 0) r.constant) → IsTracked forms vars r → (contradiction rs ≡ Some ms → Contradicts forms vars ms) → (if b then Some r.multipliers else contradiction rs) ≡ Some ms → Contradicts forms vars ms
contradicts_at forms vars r rs ms true is t on e =
    let parts = and_parts (not (has_variables r)) (int_lt (pos 0) r.constant) (sym is) in
    record { row = r; tracked = t; none = not_not (list_all is_zero r.coefficients) parts.0; above = parts.1; is = some_list r.multipliers ms e }
contradicts_at forms vars r rs ms false is t on e = on e

contradicts : (forms : List Form) (vars : ℕ) (rows : List Combination) (ms : List ℤ) → AreTracked forms vars rows → contradiction rows ≡ Some ms → Contradicts forms vars ms
contradicts forms vars [] ms t e = absurd (cc)
contradicts forms vars (r ∷ rs) ms t e =
    contradicts_at forms vars r rs ms (not (has_variables r) && int_lt (pos 0) r.constant) refl (t r (0, omega arith, refl)) (contradicts forms vars rs ms (λ row h. t row (behind r row rs h))) e

-- going on from a round
point_is_none : (p : Checked Values) (ms : List ℤ) → answer_point p ≡ refuted_by ms → ⊥
point_is_none (fits p) ms e = cc
point_is_none (passes a b) ms e = cc

go_contradicts : (forms : List Form) (vars : ℕ) (ms : List ℤ) (onward : List Combination → Solution) (new : Checked (List Combination)) → ((rows : List Combination) → new ≡ fits rows → onward rows ≡ refuted_by ms → Contradicts forms vars ms) → go_on onward new ≡ refuted_by ms → Contradicts forms vars ms
go_contradicts forms vars ms onward (fits rows) on e = on rows refl e
go_contradicts forms vars ms onward (passes a b) on e = absurd (cc)

if_contradicts : (forms : List Form) (vars : ℕ) (ms : List ℤ) (b : Bool) (i j k : ℕ) (x : Solution) → (x ≡ refuted_by ms → Contradicts forms vars ms) → (if b then crowded i j k else x) ≡ refuted_by ms → Contradicts forms vars ms
if_contradicts forms vars ms true i j k x on e = absurd (cc)
if_contradicts forms vars ms false i j k x on e = on e

abbrev pub Onward : List Form → ℕ → List ℤ → (List Taken → List Combination → Solution) → Type 0
Onward forms vars ms onward = (taken : List Taken) (rows : List Combination) → AreTracked forms vars rows → onward taken rows ≡ refuted_by ms → Contradicts forms vars ms

step_contradicts : (forms : List Form) (vars : ℕ) (taken : List Taken) (tidy : List Combination) (ms : List ℤ) (onward : List Taken → List Combination → Solution) (o : Option ℕ) → AreTracked forms vars tidy → Onward forms vars ms onward → step vars taken tidy onward o ≡ refuted_by ms → Contradicts forms vars ms
step_contradicts forms vars taken tidy ms onward None t on e = absurd (point_is_none (point_of vars taken) ms e)
step_contradicts forms vars taken tidy ms onward (Some v) t on e =
    if_contradicts forms vars ms (nat_lt 20_000 (pairs v tidy + count_by (is_rest v) tidy)) (count_by (is_plus v) tidy) (count_by (is_minus v) tidy) (count_by (is_rest v) tidy) (go_on (onward (taken_at v tidy ∷ taken)) (next_rows v tidy))
    (go_contradicts forms vars ms (onward (taken_at v tidy ∷ taken)) (next_rows v tidy) (λ rows is f. on (taken_at v tidy ∷ taken) rows (next_tracked forms vars v tidy rows t is) f)) e

begin_contradicts : (forms : List Form) (vars : ℕ) (taken : List Taken) (now : List Combination) (ms : List ℤ) (onward : List Taken → List Combination → Solution) (o : Option (List ℤ)) → contradiction now ≡ o → AreTracked forms vars now → Onward forms vars ms onward → begin vars taken now onward o ≡ refuted_by ms → Contradicts forms vars ms
begin_contradicts forms vars taken now ms onward (Some ks) is t on e = contradicts forms vars now ms t (is ∙ ap (λ x. Some x) (same ks ms e))
  where
    same : (a b : List ℤ) → refuted_by a ≡ refuted_by b → a ≡ b
    same a b f = cc
begin_contradicts forms vars taken now ms onward None is t on e =
    step_contradicts forms vars taken (tidied now) ms onward (choice_from (tidied now) None (counted 0 vars))
    (λ row h. t row (filter_within has_variables now row (strongest_within [] (filter has_variables now) row h))) on e

pub rounds_contradict : (forms : List Form) (vars : ℕ) (ms : List ℤ) (more : ℕ) → Onward forms vars ms (rounds more vars)
rounds_contradict forms vars ms zero taken rows t e = absurd (cc)
rounds_contradict forms vars ms (suc more) taken rows t e =
    begin_contradicts forms vars taken rows ms (rounds more vars) (contradiction rows) refl t (rounds_contradict forms vars ms more) e

-- the given rows are tracked, each by its own unit
combined-none : (number : Form → ℤ) (forms : List Form) (n : ℕ) → combined number forms (replicate n (pos 0)) ≡ pos 0
combined-none number [] n = refl
combined-none number (r ∷ rs) zero = refl
combined-none number (r ∷ rs) (suc n) = let e : combined number rs (replicate n (pos 0)) ≡ pos 0 = combined-none number rs n in let z : pos 0 *ℤ number r ≡ pos 0 = zero-*ℤ (number r) in omega (arith, ints, e, z)

one-times : (x : ℤ) → pos 1 *ℤ x ≡ x
one-times x = *ℤ_comm (pos 1) x ∙ mul_one x

combined-unit : (number : Form → ℤ) (front : List Form) (form : Form) (rest : List Form) → combined number (front ++ form ∷ rest) (unit_at (length front) (length (front ++ form ∷ rest))) ≡ number form
combined-unit number [] form rest =
    let e : combined number rest (replicate (length rest) (pos 0)) ≡ pos 0 = combined-none number rest (length rest) in
    let o : pos 1 *ℤ number form ≡ number form = one-times (number form) in
    omega (arith, ints, e, o)
combined-unit number (r ∷ rs) form rest =
    let e : combined number (rs ++ form ∷ rest) (unit_at (length rs) (length (rs ++ form ∷ rest))) ≡ number form = combined-unit number rs form rest in
    let z : pos 0 *ℤ number r ≡ pos 0 = zero-*ℤ (number r) in
    omega (arith, ints, e, z)

length-unit : (place n : ℕ) → length (unit_at place n) ≡ n
length-unit place n = length-set (replicate n (pos 0)) place (pos 1) ∙ length-replicate {A = ℤ} n (pos 0)

unit_all : (P : ℤ → Type 0) (place n : ℕ) → P (pos 0) → P (pos 1) → All P (unit_at place n)
unit_all P place n none one = All-set P (replicate n (pos 0)) place (pos 1) one (All-replicate P n (pos 0) none)

length-counted : (from n : ℕ) → length (counted from n) ≡ n
length-counted from zero = refl
length-counted from (suc n) = ap suc (length-counted (suc from) n)

at-counted : (f : ℕ → ℤ) (from n v : ℕ) → v < n → get_or (map f (counted from n)) v (pos 0) ≡ f (from + v)
at-counted f from zero v h = absurd (omega arith)
at-counted f from (suc n) zero h = let e : from + 0 ≡ from = omega arith in ap f (sym e)
at-counted f from (suc n) (suc v) h = let e : suc from + v ≡ from + suc v = omega arith in at-counted f (suc from) n v (omega arith) ∙ ap f e

pub given_tracked : (vars : ℕ) (front forms : List Form) → AreTracked (front ++ forms) vars (given_from vars (length (front ++ forms)) (length front) forms)
given_tracked vars front [] row h = absurd (in_nothing row h)
given_tracked vars front (form ∷ rest) row h =
    let all = front ++ form ∷ rest in
    let first : Combination = record { coefficients = map (λ v. coefficient v form) (counted 0 vars); constant = form.constant; multipliers = unit_at (length front) (length all) } in
    let here : IsTracked all vars first = record {
      size = length-map (counted 0 vars) (λ v. coefficient v form) ∙ length-counted 0 vars;
      count = length-unit (length front) (length all);
      coefficients = λ v below. let e : 0 + v ≡ v = omega arith in at-counted (λ k. coefficient k form) 0 vars v below ∙ ap (λ k. coefficient k form) e ∙ sym (combined-unit (coefficient v) front form rest);
      constant = sym (combined-unit (λ (r : Form). r.constant) front form rest);
      signs = unit_all (λ m. pos 0 ≤ℤ m) (length front) (length all) (omega (arith, ints)) (omega (arith, ints));
      small = unit_all (λ m. unsigned_abs m ≤ 2 ^ 62) (length front) (length all) (omega arith) (omega arith);
    } in
    let size : length (front ++ form ∷ []) ≡ suc (length front) = omega (arith, length_push front form) in
    let same : (front ++ form ∷ []) ++ rest ≡ all = append_assoc front (form ∷ []) rest in
    let P : List Form → Type 0 = λ fs. AreTracked fs vars (given_from vars (length fs) (length (front ++ form ∷ [])) rest) in
    let Q : ℕ → Type 0 = λ k. AreTracked all vars (given_from vars (length all) k rest) in
    let others : AreTracked all vars (given_from vars (length all) (suc (length front)) rest) = subst Q size (subst P same (given_tracked vars (front ++ form ∷ []) rest)) in
    ⊎_elim (λ (e : first ≡ row). let R : Combination → Type 0 = IsTracked all vars in subst R e here) (others row) (cases_cons first row (given_from vars (length all) (suc (length front)) rest) h)

-- a row without variables
pub zero_is : (z : ℤ) → is_zero z ≡ true → z ≡ pos 0
zero_is z e = grind (arith, ints)

pub zeros_at : (zs : List ℤ) (v : ℕ) → list_all is_zero zs ≡ true → get_or zs v (pos 0) ≡ pos 0
zeros_at [] v e = refl
zeros_at (z ∷ zs) zero e = zero_is z (and_parts (is_zero z) (list_all is_zero zs) e).0
zeros_at (z ∷ zs) (suc v) e = zeros_at zs v (and_parts (is_zero z) (list_all is_zero zs) e).1

combined-without : (number : Form → ℤ) (forms : List Form) (ms : List ℤ) → All (λ r. number r ≡ pos 0) forms → combined number forms ms ≡ pos 0
combined-without number [] ms h = refl
combined-without number (r ∷ rs) [] h = refl
combined-without number (r ∷ rs) (m ∷ ms) h =
    let z : m *ℤ number r ≡ pos 0 = ap (λ x. m *ℤ x) (All-head (λ f. number f ≡ pos 0) r rs h) ∙ *ℤ-zero m in
    let e : combined number rs ms ≡ pos 0 = combined-without number rs ms (All-tail (λ f. number f ≡ pos 0) r rs h) in
    omega (arith, ints, z, e)

above_is : (z : ℤ) → int_lt (pos 0) z ≡ true → pos 0 <ℤ z
above_is z e = grind (arith, ints)

-- no given row has a variable from a number on
abbrev pub AreBelow : ℕ → List Form → Type 0
AreBelow vars forms = (v : ℕ) → vars ≤ v → All (λ r. coefficient v r ≡ pos 0) forms

certificate_of : (forms : List Form) (vars : ℕ) (row : Combination) → AreBelow vars forms → IsTracked forms vars row → list_all is_zero row.coefficients ≡ true → int_lt (pos 0) row.constant ≡ true → IsCertificate forms row.multipliers
certificate_of forms vars row below t none above = record {
  signs = t.signs;
  cancels = λ v. ⊎_elim
      (λ (low : v < vars). sym (t.coefficients v low) ∙ zeros_at row.coefficients v none)
      (λ (high : vars ≤ v). combined-without (coefficient v) forms row.multipliers (below v high))
      (cases_lt v vars);
  above = let P : ℤ → Type 0 = λ x. pos 0 <ℤ x in subst P t.constant (above_is row.constant above);
}

pub without_above : (ts : List Term) (vars v : ℕ) → All (λ (t : Term). t.0 < vars) ts → vars ≤ v → coefficient_in ts v ≡ pos 0
without_above [] vars v h past = refl
without_above (t ∷ ts) vars v h past =
    let low : t.0 < vars = All-head (λ (u : Term). u.0 < vars) t ts h in
    rw (part_apart t v (λ e. omega arith), without_above ts vars v (All-tail (λ (u : Term). u.0 < vars) t ts h) past) refl

below_are : (forms : List Form) (vars : ℕ) → All (HasVariablesBelow vars) forms → AreBelow vars forms
below_are forms vars h v past = All-weaker (HasVariablesBelow vars) (λ r. coefficient v r ≡ pos 0) (λ r k. without_above r.terms vars v k past) forms h

pub multipliers_refute : MultipliersRefute
unfolding elim_of
multipliers_refute forms vars ms below e =
    let c : Contradicts forms vars ms = rounds_contradict forms vars ms (suc vars) [] (given vars forms) (given_tracked vars [] forms) e in
    let P : List ℤ → Type 0 = Refutes forms in
    subst P c.is (record { count = c.tracked.count; small = c.tracked.small; certificate = certificate_of forms vars c.row (below_are forms vars below) c.tracked c.none c.above })
