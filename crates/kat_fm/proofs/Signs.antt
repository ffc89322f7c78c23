-- Rows whose coefficients have one sign alone have no row on the other side.
use Rattle.std.proofs.Common.{◌≡◌, ℕ, zero, suc, ◌+◌, ℤ, pos, ◌+ℤ◌, ◌≤ℤ◌, List, [], ◌∷◌, length, map, get_or, Bool, true, false, if◌then◌else◌, nat_lt, ⊎_elim, Option, Some, None, Contains, All, refl, sym, ap, ◌∙◌, subst, arith}
use Rattle.std.specs.Prelude.{int_lt, ◌==◌}
use Rattle.std.specs.List.{count_by, filter}
use Rattle.std.proofs.lemmas.Int.{ints}
use Rattle.std.proofs.lemmas.Bool.{false≢true}
use Rattle.std.proofs.lemmas.List.Elements.{All-head, All-tail}
use Rattle.std.proofs.lemmas.List.Sums.{length-filter}
use Rattle.kat_linear.specs.Rows.{Form, Term, coefficient, coefficient_in}
use Rattle.kat_fm.specs.Limits.{Checked}
use Rattle.kat_fm.specs.Limits.Checked.{fits, passes}
use Rattle.kat_fm.specs.Combinations.{Combination, at, counted, given_at, given_from, given}
use Rattle.kat_fm.specs.Points.{Taken, Values, point_of}
use Rattle.kat_fm.specs.Eliminations.{Solution, contradiction, tidied, is_plus, is_minus, is_rest, pairs, choice_from, next_rows, taken_at, answer_point, go_on, step, begin, rounds, elim_of}
use Rattle.kat_fm.specs.Eliminations.Solution.{met_at, refuted_by, crowded, goes_wide}
use Rattle.kat_fm.specs.Laws.{SidesAreTold}
use Rattle.kat_fm.proofs.Certificates.{in_nothing, cases_cons, behind as further}
use Rattle.kat_fm.proofs.Members.{IsNew, next_from}
use Rattle.kat_fm.proofs.Returns.{tidied_within}

-- no row passes a test of any variable
abbrev pub NonePass : (ℕ → Combination → Bool) → List Combination → Type 0
NonePass test rows = (v : ℕ) (row : Combination) → Contains rows row → test v row ≡ false

none_kept : (test : Combination → Bool) (rows : List Combination) → ((row : Combination) → Contains rows row → test row ≡ false) → filter test rows ≡ []
none_kept test [] h = refl
none_kept test (r ∷ rs) h =
    ap (λ b. if b then r ∷ filter test rs else filter test rs) (h r (0, omega arith, refl)) ∙ none_kept test rs (λ row k. h row (further r row rs k))

none_counted : (test : Combination → Bool) (rows : List Combination) → ((row : Combination) → Contains rows row → test row ≡ false) → count_by test rows ≡ 0
none_counted test rows h = sym (length-filter test rows) ∙ ap length (none_kept test rows h)

-- the number of one side is 0, when elimination gives up on too many rows
abbrev pub NoneCrowd : (ℕ → ℕ → ℕ) → Solution → Type 0
NoneCrowd side (met_at den nums) = Unit {0}
NoneCrowd side (refuted_by ms) = Unit {0}
NoneCrowd side (goes_wide left right) = Unit {0}
NoneCrowd side (crowded plus minus rest) = side plus minus ≡ 0

-- a test of rows that is true of one side alone, and the number of that side
pub record IsSide (test : ℕ → Combination → Bool) (side : ℕ → ℕ → ℕ) : Type 0 where
  pub new : (v : ℕ) (rows : List Combination) (row : Combination) → NonePass test rows → IsNew v rows row → ⊥
  pub count : (v : ℕ) (rows : List Combination) → side (count_by (is_plus v) rows) (count_by (is_minus v) rows) ≡ count_by (test v) rows
  pub none : side 0 0 ≡ 0

next_none : (test : ℕ → Combination → Bool) (side : ℕ → ℕ → ℕ) → IsSide test side → (v : ℕ) (rows new : List Combination) → NonePass test rows → next_rows v rows ≡ fits new → NonePass test new
next_none test side is v rows new h e u row k = ⊎_elim
    (λ (x : Contains rows row × (is_rest v row ≡ true)). h u row x.0)
    (λ (x : IsNew v rows row). absurd (is.new v rows row h x))
    (next_from v rows new row e k)

abbrev pub Onward : (ℕ → Combination → Bool) → (ℕ → ℕ → ℕ) → (List Taken → List Combination → Solution) → Type 0
Onward test side onward = (taken : List Taken) (rows : List Combination) → NonePass test rows → NoneCrowd side (onward taken rows)

point_none : (side : ℕ → ℕ → ℕ) (p : Checked Values) → NoneCrowd side (answer_point p)
point_none side (fits p) = tt
point_none side (passes left right) = tt

go_none : (side : ℕ → ℕ → ℕ) (onward : List Combination → Solution) (new : Checked (List Combination)) → ((rows : List Combination) → new ≡ fits rows → NoneCrowd side (onward rows)) → NoneCrowd side (go_on onward new)
go_none side onward (fits rows) on = on rows refl
go_none side onward (passes left right) on = tt

if_none : (side : ℕ → ℕ → ℕ) (b : Bool) (i j k : ℕ) (x : Solution) → side i j ≡ 0 → NoneCrowd side x → NoneCrowd side (if b then crowded i j k else x)
if_none side true i j k x e h = e
if_none side false i j k x e h = h

step_none : (test : ℕ → Combination → Bool) (side : ℕ → ℕ → ℕ) → IsSide test side → (vars : ℕ) (taken : List Taken) (tidy : List Combination) (onward : List Taken → List Combination → Solution) (o : Option ℕ)
    → NonePass test tidy → Onward test side onward → NoneCrowd side (step vars taken tidy onward o)
step_none test side is vars taken tidy onward None h on = point_none side (point_of vars taken)
step_none test side is vars taken tidy onward (Some v) h on =
    if_none side (nat_lt 20_000 (pairs v tidy + count_by (is_rest v) tidy)) (count_by (is_plus v) tidy) (count_by (is_minus v) tidy) (count_by (is_rest v) tidy) (go_on (onward (taken_at v tidy ∷ taken)) (next_rows v tidy))
    (is.count v tidy ∙ none_counted (test v) tidy (h v))
    (go_none side (onward (taken_at v tidy ∷ taken)) (next_rows v tidy) (λ rows e. on (taken_at v tidy ∷ taken) rows (next_none test side is v tidy rows h e)))

begin_none : (test : ℕ → Combination → Bool) (side : ℕ → ℕ → ℕ) → IsSide test side → (vars : ℕ) (taken : List Taken) (now : List Combination) (onward : List Taken → List Combination → Solution) (o : Option (List ℤ))
    → NonePass test now → Onward test side onward → NoneCrowd side (begin vars taken now onward o)
begin_none test side is vars taken now onward (Some ms) h on = tt
begin_none test side is vars taken now onward None h on =
    step_none test side is vars taken (tidied now) onward (choice_from (tidied now) None (counted 0 vars)) (λ v row k. h v row (tidied_within now row k)) on

rounds_none : (test : ℕ → Combination → Bool) (side : ℕ → ℕ → ℕ) → IsSide test side → (vars more : ℕ) → Onward test side (rounds more vars)
rounds_none test side is vars zero taken rows h = is.none
rounds_none test side is vars (suc more) taken rows h = begin_none test side is vars taken rows (rounds more vars) (contradiction rows) h (rounds_none test side is vars more)

minus_side : IsSide is_minus (λ plus minus. minus)
minus_side = record {
  new = λ v rows row h k. false≢true (sym (h v k.minus k.minus_among) ∙ k.minus_test);
  count = λ v rows. refl;
  none = refl;
}

plus_side : IsSide is_plus (λ plus minus. plus)
plus_side = record {
  new = λ v rows row h k. false≢true (sym (h v k.plus k.plus_among) ∙ k.plus_test);
  count = λ v rows. refl;
  none = refl;
}

-- a property of 0 that sums keep, of all coefficients of the given rows
abbrev pub KeepsSums : (ℤ → Type 0) → Type 0
KeepsSums P = (a b : ℤ) → P a → P b → P (a +ℤ b)

if_part : (P : ℤ → Type 0) (b : Bool) (z : ℤ) → P (pos 0) → P z → P (if b then z else pos 0)
if_part P true z none h = h
if_part P false z none h = none

coefficient_has : (P : ℤ → Type 0) → P (pos 0) → KeepsSums P → (ts : List Term) (v : ℕ) → All (λ (t : Term). P t.1) ts → P (coefficient_in ts v)
coefficient_has P none sums [] v h = none
coefficient_has P none sums (t ∷ ts) v h =
    sums (if t.0 == v then t.1 else pos 0) (coefficient_in ts v) (if_part P (t.0 == v) t.1 none (All-head (λ (u : Term). P u.1) t ts h)) (coefficient_has P none sums ts v (All-tail (λ (u : Term). P u.1) t ts h))

got : (P : ℤ → Type 0) → P (pos 0) → (f : ℕ → ℤ) (vs : List ℕ) (v : ℕ) → ((u : ℕ) → P (f u)) → P (get_or (map f vs) v (pos 0))
got P none f [] v h = none
got P none f (u ∷ us) zero h = h u
got P none f (u ∷ us) (suc v) h = got P none f us v h

given_have : (P : ℤ → Type 0) → P (pos 0) → KeepsSums P → (vars count place : ℕ) (forms : List Form) → All (λ (form : Form). All (λ (t : Term). P t.1) form.terms) forms
    → (v : ℕ) (row : Combination) → Contains (given_from vars count place forms) row → P (at v row)
given_have P none sums vars count place [] h v row k = absurd (in_nothing row k)
given_have P none sums vars count place (form ∷ forms) h v row k = ⊎_elim
    (λ (same : given_at vars count place form ≡ row).
    let Q : Combination → Type 0 = λ x. P (at v x) in
    subst Q same (got P none (λ u. coefficient u form) (counted 0 vars) v (λ u. coefficient_has P none sums form.terms u (All-head (λ (f : Form). All (λ (t : Term). P t.1) f.terms) form forms h))))
    (λ (x : Contains (given_from vars count (suc place) forms) row). given_have P none sums vars count (suc place) forms (All-tail (λ (f : Form). All (λ (t : Term). P t.1) f.terms) form forms h) v row x)
    (cases_cons (given_at vars count place form) row (given_from vars count (suc place) forms) k)

not_below : (z : ℤ) → pos 0 ≤ℤ z → int_lt z (pos 0) ≡ false
not_below z h = grind (arith, ints)

not_above : (z : ℤ) → z ≤ℤ pos 0 → int_lt (pos 0) z ≡ false
not_above z h = grind (arith, ints)

pub sides_are_told : SidesAreTold
unfolding elim_of
sides_are_told forms vars plus minus rest e = (
  λ h. subst (NoneCrowd (λ i j. j)) e (rounds_none is_minus (λ i j. j) minus_side vars (suc vars) [] (given vars forms)
      (λ v row k. not_below (at v row) (given_have (λ z. pos 0 ≤ℤ z) (omega (arith, ints)) (λ a b x y. omega (arith, ints, x, y)) vars (length forms) 0 forms h v row k))),
  λ h. subst (NoneCrowd (λ i j. i)) e (rounds_none is_plus (λ i j. i) plus_side vars (suc vars) [] (given vars forms)
      (λ v row k. not_above (at v row) (given_have (λ z. z ≤ℤ pos 0) (omega (arith, ints)) (λ a b x y. omega (arith, ints, x, y)) vars (length forms) 0 forms h v row k))),
)
