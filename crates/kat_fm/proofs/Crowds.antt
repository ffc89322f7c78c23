-- Elimination never runs out of rounds: each leaves one variable more out of the rows.
use Rattle.std.proofs.Common.{◌≡◌, ℕ, zero, suc, ◌+◌, ◌*◌, ◌<◌, ◌≤◌, ℤ, Bool, true, false, if◌then◌else◌, nat_lt, Option, Some, None, List, [], ◌∷◌, Contains, ⊎_elim, refl, sym, ap, ◌∙◌, subst, arith}
use Rattle.std.specs.Prelude.{◌&&◌}
use Rattle.std.specs.List.{list_all, count_by}
use Rattle.std.proofs.lemmas.Bool.{cases_lt, leb-true}
use Rattle.kat_fm.specs.Limits.{Checked}
use Rattle.kat_fm.specs.Limits.Checked.{fits, passes}
use Rattle.kat_fm.specs.Combinations.{Combination, at, counted, given}
use Rattle.kat_fm.specs.Points.{Taken, Values, point_of}
use Rattle.kat_fm.specs.Eliminations.{Solution, contradiction, tidied, is_plus, is_minus, is_rest, pairs, choice_from, next_rows, taken_at, answer_point, go_on, step, begin, rounds, elim_of}
use Rattle.kat_fm.specs.Comparisons.{is_zero}
use Rattle.kat_fm.specs.Eliminations.Solution.{crowded}
use Rattle.kat_fm.specs.Laws.{RowsAreTooMany}
use Rattle.kat_fm.proofs.Certificates.{in_nothing, cases_cons, behind as further, zero_is}
use Rattle.kat_fm.proofs.Members.{IsNew, next_from, left_out, stays_out}
use Rattle.kat_fm.proofs.Returns.{tidied_within, all_at, choice_some}

-- how many variables below a number some row has
abbrev pub present : Bool → ℕ
present b = if b then 0 else 1

abbrev pub live : ℕ → List Combination → ℕ
live zero rows = 0
live (suc n) rows = live n rows + present (list_all (is_rest n) rows)

present_most : (b : Bool) → present b ≤ 1
present_most true = omega arith
present_most false = omega arith

live_most : (n : ℕ) (rows : List Combination) → live n rows ≤ n
live_most zero rows = omega arith
live_most (suc n) rows = omega (arith, live_most n rows, present_most (list_all (is_rest n) rows))

abbrev pub IsFewer : List Combination → List Combination → Type 0
IsFewer old new = (u : ℕ) → list_all (is_rest u) old ≡ true → list_all (is_rest u) new ≡ true

present_fewer : (a b : Bool) → (a ≡ true → b ≡ true) → present b ≤ present a
present_fewer true b h = rw (h refl) (omega arith)
present_fewer false b h = present_most b

live_fewer : (n : ℕ) (old new : List Combination) → IsFewer old new → live n new ≤ live n old
live_fewer zero old new h = omega arith
live_fewer (suc n) old new h = omega (arith, live_fewer n old new h, present_fewer (list_all (is_rest n) old) (list_all (is_rest n) new) (h n))

live_less : (n v : ℕ) (old new : List Combination) → IsFewer old new → v < n → list_all (is_rest v) old ≡ false → list_all (is_rest v) new ≡ true → live n new < live n old
live_less zero v old new h below a b = absurd (omega arith)
live_less (suc n) v old new h below a b = ⊎_elim
    (λ (low : v < n). omega (arith, live_less n v old new h low a b, present_fewer (list_all (is_rest n) old) (list_all (is_rest n) new) (h n)))
    (λ (high : n ≤ v).
    let here : v ≡ n = omega arith in
    let x : present (list_all (is_rest n) old) ≡ 1 = ap (λ u. present (list_all (is_rest u) old)) (sym here) ∙ ap present a in
    let y : present (list_all (is_rest n) new) ≡ 0 = ap (λ u. present (list_all (is_rest u) new)) (sym here) ∙ ap present b in
    omega (arith, live_fewer n old new h, x, y))
    (cases_lt v n)

all_from : (test : Combination → Bool) (rows : List Combination) → ((r : Combination) → Contains rows r → test r ≡ true) → list_all test rows ≡ true
all_from test [] h = refl
all_from test (row ∷ rows) h = ap (λ b. b && list_all test rows) (h row (0, omega arith, refl)) ∙ all_from test rows (λ r k. h r (further row r rows k))

tidied_fewer : (now : List Combination) → IsFewer now (tidied now)
tidied_fewer now u e = all_from (is_rest u) (tidied now) (λ r h. all_at (is_rest u) now r e (tidied_within now r h))

next_fewer : (v : ℕ) (tidy new : List Combination) → next_rows v tidy ≡ fits new → IsFewer tidy new
next_fewer v tidy new is u e = all_from (is_rest u) new (λ r h. ⊎_elim
    (λ (k : Contains tidy r × (is_rest v r ≡ true)). all_at (is_rest u) tidy r e k.0)
    (λ (k : IsNew v tidy r). ap is_zero (stays_out u v k.plus k.minus r (zero_is (at u k.plus) (all_at (is_rest u) tidy k.plus e k.plus_among)) (zero_is (at u k.minus) (all_at (is_rest u) tidy k.minus e k.minus_among)) k.combined))
    (next_from v tidy new r is h))

next_without : (v : ℕ) (tidy new : List Combination) → next_rows v tidy ≡ fits new → list_all (is_rest v) new ≡ true
next_without v tidy new is = all_from (is_rest v) new (λ r h. ⊎_elim
    (λ (k : Contains tidy r × (is_rest v r ≡ true)). k.1)
    (λ (k : IsNew v tidy r). ap is_zero (left_out v k.plus k.minus r k.plus_test k.minus_test k.combined))
    (next_from v tidy new r is h))

counted_below : (from n v : ℕ) → Contains (counted from n) v → v < from + n
counted_below from zero v h = absurd (in_nothing v h)
counted_below from (suc n) v h = ⊎_elim
    (λ (same : from ≡ v). omega arith)
    (λ (k : Contains (counted (suc from) n) v). let low = counted_below (suc from) n v k in omega arith)
    (cases_cons from v (counted (suc from) n) h)

point_is_no_crowd : (p : Checked Values) (i j k : ℕ) → answer_point p ≡ crowded i j k → ⊥
point_is_no_crowd (fits p) i j k e = cc
point_is_no_crowd (passes a b) i j k e = cc

abbrev pub Onward : ℕ → ℕ → (List Taken → List Combination → Solution) → Type 0
Onward vars more onward = (taken : List Taken) (now : List Combination) (i j k : ℕ) → live vars now < more → onward taken now ≡ crowded i j k → 20_000 < i * j + k

crowd_same : (a b c i j k : ℕ) → crowded a b c ≡ crowded i j k → (a ≡ i) × (b ≡ j) × (c ≡ k)
crowd_same a b c i j k e = ((cc), (cc), (cc))

go_crowds : (vars more v : ℕ) (taken : List Taken) (now : List Combination) (onward : List Taken → List Combination → Solution) (new : Checked (List Combination)) (i j k : ℕ) → Onward vars more onward → choice_from (tidied now) None (counted 0 vars) ≡ Some v → live vars now < suc more → next_rows v (tidied now) ≡ new
    → go_on (onward (taken_at v (tidied now) ∷ taken)) new ≡ crowded i j k → 20_000 < i * j + k
go_crowds vars more v taken now onward (passes a b) i j k on choice low is e = absurd (cc)
go_crowds vars more v taken now onward (fits new) i j k on choice low is e = ⊎_elim
    (λ (x : None ≡ Some v). absurd (none_some x))
    (λ (x : Contains (counted 0 vars) v × (list_all (is_rest v) (tidied now) ≡ false)).
    let below = counted_below 0 vars v x.0 in
    let less = live_less vars v (tidied now) new (next_fewer v (tidied now) new is) (omega arith) x.1 (next_without v (tidied now) new is) in
    let fewer = live_fewer vars now (tidied now) (tidied_fewer now) in
    on (taken_at v (tidied now) ∷ taken) new i j k (omega arith) e)
    (choice_some (tidied now) None (counted 0 vars) v choice)
  where
    none_some : None ≡ Some v → ⊥
    none_some x = cc

if_crowds : (b : Bool) (a c d i j k : ℕ) (x : Solution) → nat_lt 20_000 (a * c + d) ≡ b → (x ≡ crowded i j k → 20_000 < i * j + k) → (if b then crowded a c d else x) ≡ crowded i j k → 20_000 < i * j + k
if_crowds true a c d i j k x t on e =
    let same = crowd_same a c d i j k e in
    let more : 20_000 < a * c + d = leb-true 20_001 (a * c + d) t in
    let P : ℕ → Type 0 = λ y. 20_000 < y * c + d in
    let Q : ℕ → Type 0 = λ y. 20_000 < i * y + d in
    let R : ℕ → Type 0 = λ y. 20_000 < i * j + y in
    subst R same.2 (subst Q same.1 (subst P same.0 more))
if_crowds false a c d i j k x t on e = on e

step_crowds : (vars more : ℕ) (taken : List Taken) (now : List Combination) (onward : List Taken → List Combination → Solution) (o : Option ℕ) (i j k : ℕ) → Onward vars more onward → choice_from (tidied now) None (counted 0 vars) ≡ o → live vars now < suc more → step vars taken (tidied now) onward o ≡ crowded i j k → 20_000 < i * j + k
step_crowds vars more taken now onward None i j k on choice low e = absurd (point_is_no_crowd (point_of vars taken) i j k e)
step_crowds vars more taken now onward (Some v) i j k on choice low e =
    let tidy = tidied now in
    if_crowds (nat_lt 20_000 (pairs v tidy + count_by (is_rest v) tidy)) (count_by (is_plus v) tidy) (count_by (is_minus v) tidy) (count_by (is_rest v) tidy) i j k (go_on (onward (taken_at v tidy ∷ taken)) (next_rows v tidy)) refl
    (λ f. go_crowds vars more v taken now onward (next_rows v tidy) i j k on choice low refl f) e

begin_crowds : (vars more : ℕ) (taken : List Taken) (now : List Combination) (onward : List Taken → List Combination → Solution) (o : Option (List ℤ)) (i j k : ℕ) → Onward vars more onward → live vars now < suc more → begin vars taken now onward o ≡ crowded i j k → 20_000 < i * j + k
begin_crowds vars more taken now onward (Some ms) i j k on low e = absurd (cc)
begin_crowds vars more taken now onward None i j k on low e = step_crowds vars more taken now onward (choice_from (tidied now) None (counted 0 vars)) i j k on refl low e

rounds_crowd : (vars more : ℕ) → Onward vars more (rounds more vars)
rounds_crowd vars zero taken now i j k low e = absurd (omega arith)
rounds_crowd vars (suc more) taken now i j k low e = begin_crowds vars more taken now (rounds more vars) (contradiction now) i j k (rounds_crowd vars more) low e

pub rows_are_too_many : RowsAreTooMany
unfolding elim_of
rows_are_too_many forms vars i j k e = rounds_crowd vars (suc vars) [] (given vars forms) i j k (omega (arith, live_most vars (given vars forms))) e
