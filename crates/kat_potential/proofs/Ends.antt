-- Elimination of differences in at most 60 variables ends at a point or with multipliers.
use Rattle.std.proofs.Common.{◌≡◌, ℕ, zero, suc, ◌+◌, ◌*◌, ◌^◌, ◌<◌, ◌≤◌, ◌-◌, ℤ, pos, unsigned_abs, nat_lt, List, [], ◌∷◌, length, map, filter, count_by, get_or, replicate, Bool, true, false, if◌then◌else◌, inl, inr, Option, Some, None, Contains, All, ⊎_elim, refl, sym, ap, ◌∙◌, subst, arith}
use Rattle.std.proofs.lemmas.List.Elements.{All-head, All-tail, All-set, All-replicate}
use Rattle.kat_linear.specs.Rows.{Form, coefficient}
use Rattle.kat_linear.proofs.Contradictions.{refuted}
use Rattle.kat_fm.specs.Limits.{Checked}
use Rattle.kat_fm.specs.Limits.Checked.{fits, passes}
use Rattle.kat_fm.specs.Combinations.{Combination, at, counted, given_at, given_from, given}
use Rattle.kat_fm.specs.Points.{Taken, Values, point_of}
use Rattle.kat_fm.specs.Eliminations.{Solution, contradiction, tidied, is_plus, is_minus, is_rest, pairs, choice_from, next_rows, taken_at, answer_point, go_on, step, begin, rounds, elim_of}
use Rattle.kat_fm.specs.Eliminations.Solution.{met_at, refuted_by, crowded, goes_wide}
use Rattle.kat_fm.specs.Views.{AreTidy}
use Rattle.kat_fm.proofs.Certificates.{in_nothing, cases_cons, filter_within, given_tracked, multipliers_refute}
use Rattle.kat_fm.proofs.Crowds.{rows_are_too_many}
use Rattle.kat_fm.proofs.Distinct.{tidied_tidy}
use Rattle.kat_fm.proofs.Members.{filter_true}
use Rattle.kat_fm.proofs.Returns.{Fits, tidied_within, next_fits, fewer_fits, chosen_apart}
use Rattle.kat_potential.specs.Differences.{IsDifference, DifferencesEndAtPoints}
use Rattle.kat_potential.proofs.Fitting.{Holds, IsGap, AreGaps, gap, above_is, below_is, next_gaps}
use Rattle.kat_potential.proofs.Few.{step_few}
use Rattle.kat_potential.proofs.Back.{AreSided, AreTaken, growth, back_low}

-- twice as much, so many times
abbrev pub doubled : ℕ → ℕ → ℕ
doubled most zero = most
doubled most (suc n) = doubled (most + most) n

doubled_more : (most n : ℕ) → most ≤ doubled most n
doubled_more most zero = omega arith
doubled_more most (suc n) = let rest = doubled_more (most + most) n in omega (arith, rest)

doubled_on : (most n k : ℕ) → doubled most n ≤ doubled most (n + k)
doubled_on most zero k = let zero_on : 0 + k ≡ k = omega arith in (let P : ℕ → Type 0 = λ j. most ≤ doubled most j in subst P (sym zero_on) (doubled_more most k))
doubled_on most (suc n) k = let on : suc n + k ≡ suc (n + k) = omega arith in (let P : ℕ → Type 0 = λ j. doubled (most + most) n ≤ doubled most j in subst P (sym on) (doubled_on (most + most) n k))

-- so much for each round
abbrev pub room : ℕ → ℕ → ℕ
room most zero = 0
room most (suc n) = most + room most n

room_on : (most n k : ℕ) → room most n ≤ room most (n + k)
room_on most zero k = omega arith
room_on most (suc n) k = let on : suc n + k ≡ suc (n + k) = omega arith in let rest = room_on most n k in (let P : ℕ → Type 0 = λ j. most + room most n ≤ room most j in subst P (sym on) (omega (arith, rest)))

-- ---- what a round may end with
abbrev pub Ends : Solution → Type 0
Ends (met_at den nums) = Unit {0}
Ends (refuted_by ms) = Unit {0}
Ends (crowded plus minus rest) = plus * minus + rest ≤ 20_000
Ends (goes_wide left right) = ⊥

-- the greatest constant of any round
abbrev pub MOST : ℕ
MOST = 2 ^ 101

pub record IsReady (vars more most weight : ℕ) (taken : List Taken) (rows : List Combination) : Type 0 where
  pub fit : Fits vars taken rows
  pub are : AreGaps vars most weight rows
  pub sided : AreTaken vars MOST taken
  pub constants : doubled most more ≤ MOST
  pub multipliers : doubled weight more ≤ 2 ^ 62
  pub space : growth MOST taken + room MOST more ≤ 2 ^ 126

abbrev pub Onward : ℕ → ℕ → (List Taken → List Combination → Solution) → Type 0
Onward vars more onward = (most weight : ℕ) (taken : List Taken) (rows : List Combination) → IsReady vars more most weight taken rows → Ends (onward taken rows)

point_ends : (p : Checked Values) → Holds (λ (v : Values). Unit {0}) p → Ends (answer_point p)
point_ends (fits p) h = tt
point_ends (passes left right) h = h

go_ends : (P : List Combination → Type 0) (onward : List Combination → Solution) (new : Checked (List Combination)) → Holds P new → ((rows : List Combination) → new ≡ fits rows → P rows → Ends (onward rows)) → Ends (go_on onward new)
go_ends P onward (fits rows) h on = on rows refl h
go_ends P onward (passes left right) h on = absurd h

if_ends : (b : Bool) (i j k : ℕ) (x : Solution) → i * j + k ≤ 20_000 → Ends x → Ends (if b then crowded i j k else x)
if_ends true i j k x few h = few
if_ends false i j k x few h = h

-- the rows of a variable that is taken
plus_sided : (vars most weight v : ℕ) (rows : List Combination) → AreGaps vars most weight rows → most ≤ MOST → AreSided vars MOST v (filter (is_plus v) rows)
plus_sided vars most weight v rows h small row has =
    let g = h row (filter_within (is_plus v) rows row has) in
    let sign = above_is vars g.lower g.higher v (at v row) (ap (λ (xs : List ℤ). get_or xs v (pos 0)) (sym g.coefficients)) (filter_true (is_plus v) rows row has) in
    let c = g.constant in
    record { lower = g.lower; higher = g.higher; coefficients = g.coefficients; constant = omega (arith, c, small); side = inl sign.0; factor = ap unsigned_abs sign.1 }

minus_sided : (vars most weight v : ℕ) (rows : List Combination) → AreGaps vars most weight rows → most ≤ MOST → AreSided vars MOST v (filter (is_minus v) rows)
minus_sided vars most weight v rows h small row has =
    let g = h row (filter_within (is_minus v) rows row has) in
    let sign = below_is vars g.lower g.higher v (at v row) (ap (λ (xs : List ℤ). get_or xs v (pos 0)) (sym g.coefficients)) (filter_true (is_minus v) rows row has) in
    let c = g.constant in
    record { lower = g.lower; higher = g.higher; coefficients = g.coefficients; constant = omega (arith, c, small); side = inr sign.0; factor = sign.1 }

step_ends : (vars more most weight : ℕ) (taken : List Taken) (tidy : List Combination) (onward : List Taken → List Combination → Solution) (o : Option ℕ) → vars ≤ 60
    → choice_from tidy None (counted 0 vars) ≡ o → AreTidy tidy → IsReady vars (suc more) most weight taken tidy → Onward vars more onward → Ends (step vars taken tidy onward o)
step_ends vars more most weight taken tidy onward None small is tidy_is h on =
    let all = h.space in
    point_ends (point_of vars taken)
    (back_low vars MOST 0 (record { den = pos 1; nums = replicate vars (pos 0) }) taken
    (record {
      den = refl;
      nums = All-replicate (λ (n : ℤ). unsigned_abs n ≤ 0) vars (pos 0) (omega arith);
      none = λ t has. zeros vars t.variable;
    }) h.sided (omega (arith, all)))
  where
    zeros : (n v : ℕ) → get_or (replicate n (pos 0)) v (pos 0) ≡ pos 0
    zeros zero v = refl
    zeros (suc n) zero = refl
    zeros (suc n) (suc v) = zeros n v
step_ends vars more most weight taken tidy onward (Some v) small is tidy_is h on =
    let a = h.constants in let b = h.multipliers in let all = h.space in
    let now : most + most ≤ doubled (most + most) more = doubled_more (most + most) more in
    let weights : weight + weight ≤ doubled (weight + weight) more = doubled_more (weight + weight) more in
    let below : most ≤ MOST = omega (arith, a, now) in
    let grown : growth MOST (taken_at v tidy ∷ taken) + room MOST more ≤ 2 ^ 126 = omega (arith, all) in
    if_ends (nat_lt 20_000 (pairs v tidy + count_by (is_rest v) tidy)) (count_by (is_plus v) tidy) (count_by (is_minus v) tidy) (count_by (is_rest v) tidy) (go_on (onward (taken_at v tidy ∷ taken)) (next_rows v tidy))
    (step_few vars most weight v tidy small h.are tidy_is)
    (go_ends (AreGaps vars (most + most) (weight + weight)) (onward (taken_at v tidy ∷ taken)) (next_rows v tidy)
    (next_gaps vars most weight v tidy h.are (omega (arith, a, now)) (omega (arith, b, weights)))
    (λ rows e g. on (most + most) (weight + weight) (taken_at v tidy ∷ taken) rows (record {
      fit = next_fits vars v taken tidy rows h.fit e;
      are = g;
      sided = (minus_sided vars most weight v tidy h.are below, plus_sided vars most weight v tidy h.are below, λ u has. chosen_apart vars v taken tidy h.fit is u has, h.sided);
      constants = a;
      multipliers = b;
      space = grown;
    })))

begin_ends : (vars more most weight : ℕ) (taken : List Taken) (now : List Combination) (onward : List Taken → List Combination → Solution) (o : Option (List ℤ)) → vars ≤ 60
    → IsReady vars (suc more) most weight taken now → Onward vars more onward → Ends (begin vars taken now onward o)
begin_ends vars more most weight taken now onward (Some ms) small h on = tt
begin_ends vars more most weight taken now onward None small h on =
    step_ends vars more most weight taken (tidied now) onward (choice_from (tidied now) None (counted 0 vars)) small refl (tidied_tidy now)
    (record {
      fit = fewer_fits vars taken now h.fit;
      are = λ row has. h.are row (tidied_within now row has);
      sided = h.sided;
      constants = h.constants;
      multipliers = h.multipliers;
      space = h.space;
    }) on

rounds_end : (vars more : ℕ) → vars ≤ 60 → Onward vars more (rounds more vars)
rounds_end vars zero small most weight taken rows h = omega arith
rounds_end vars (suc more) small most weight taken rows h = begin_ends vars more most weight taken rows (rounds more vars) (contradiction rows) small h (rounds_end vars more small)

-- ---- the given rows
counted_same : (f g : ℕ → ℤ) (from n : ℕ) → ((v : ℕ) → v < from + n → f v ≡ g v) → map f (counted from n) ≡ map g (counted from n)
counted_same f g from zero h = refl
counted_same f g from (suc n) h = ap (λ (x : ℤ). x ∷ map f (counted (suc from) n)) (h from (omega arith)) ∙ ap (λ (xs : List ℤ). g from ∷ xs) (counted_same f g (suc from) n (λ v low. h v (omega (arith, low))))

given_gap : (vars count place : ℕ) (form : Form) → IsDifference vars form → IsGap vars (2 ^ 40) 1 (given_at vars count place form)
given_gap vars count place form d = record {
  lower = d.lower;
  higher = d.higher;
  lower_most = d.lower_most;
  higher_most = d.higher_most;
  coefficients = counted_same (λ v. coefficient v form) (gap d.lower d.higher) 0 vars (λ v low. d.is v (omega (arith, low)));
  constant = d.narrow;
  multipliers = All-set (λ (m : ℤ). unsigned_abs m ≤ 1) (replicate count (pos 0)) place (pos 1) (omega arith) (All-replicate (λ (m : ℤ). unsigned_abs m ≤ 1) count (pos 0) (omega arith));
}

given_gaps : (vars count place : ℕ) (forms : List Form) → All (IsDifference vars) forms → AreGaps vars (2 ^ 40) 1 (given_from vars count place forms)
given_gaps vars count place [] h row has = absurd (in_nothing row has)
given_gaps vars count place (form ∷ forms) h row has = ⊎_elim
    (λ (same : given_at vars count place form ≡ row). let P : Combination → Type 0 = IsGap vars (2 ^ 40) 1 in subst P same (given_gap vars count place form (All-head (IsDifference vars) form forms h)))
    (λ (later : Contains (given_from vars count (suc place) forms) row). given_gaps vars count (suc place) forms (All-tail (IsDifference vars) form forms h) row later)
    (cases_cons (given_at vars count place form) row (given_from vars count (suc place) forms) has)

-- ---- the bounds of at most 61 rounds
at_rounds : (P : ℕ → ℕ) (n : ℕ) → ((m k : ℕ) → P m ≤ P (m + k)) → n ≤ 61 → P n ≤ P 61
at_rounds P n grows small = let on : n + (61 - n) ≡ 61 = omega (arith, small) in (let Q : ℕ → Type 0 = λ j. P n ≤ P j in subst Q on (grows n (61 - n)))

constants_most : doubled (2 ^ 40) 61 ≡ MOST
constants_most = refl

multipliers_most : doubled 1 61 ≡ 2 ^ 61
multipliers_most = refl

room_most : room MOST 61 ≡ 61 * MOST
room_most = refl

elimination_ends : (forms : List Form) (vars : ℕ) → vars ≤ 60 → All (IsDifference vars) forms → Ends (elim_of forms vars)
unfolding elim_of
elimination_ends forms vars small h =
    let a = at_rounds (doubled (2 ^ 40)) (suc vars) (doubled_on (2 ^ 40)) (omega (arith, small)) in
    let b = at_rounds (doubled 1) (suc vars) (doubled_on 1) (omega (arith, small)) in
    let c = at_rounds (room MOST) (suc vars) (room_on MOST) (omega (arith, small)) in
    rounds_end vars (suc vars) small (2 ^ 40) 1 [] (given vars forms) (record {
      fit = record { size = λ row has. (given_tracked vars [] forms row has).size; gone = λ row has t k. absurd (in_nothing t k) };
      are = given_gaps vars (length forms) 0 forms h;
      sided = tt;
      constants = omega (arith, a, constants_most);
      multipliers = omega (arith, b, multipliers_most);
      space = omega (arith, c, room_most);
    })

pub differences_end_at_points : DifferencesEndAtPoints
differences_end_at_points forms vars small below differences values met = at_end (elim_of forms vars) refl (elimination_ends forms vars small differences)
  where
    at_end : (x : Solution) → elim_of forms vars ≡ x → Ends x → (den : ℤ) × (nums : List ℤ) × (elim_of forms vars ≡ met_at den nums)
    at_end (met_at den nums) e h = (den, nums, e)
    at_end (refuted_by ms) e h = absurd (refuted forms ms (multipliers_refute forms vars ms below e).certificate 1 (omega arith) values met)
    at_end (crowded plus minus rest) e h = absurd (let many = rows_are_too_many forms vars plus minus rest e in omega (arith, many, h))
    at_end (goes_wide left right) e h = absurd h
