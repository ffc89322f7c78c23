-- A round: what is done with the rows, and a variable that is taken.
use Rattle.std.proofs.Common.{◌≡◌, ℕ, suc, ◌+◌, ◌-◌, ◌*◌, ◌<◌, ℤ, pos, ◌<ℤ◌, true, if◌then◌else◌, All, List, [], ◌∷◌, length, Some, None, refl, sym, ap, ◌∙◌, subst, arith, Result, Ok}
use Rattle.std.specs.Prelude.{nat_lt, int_lt, IfOk}
use Rattle.std.specs.List.{filter, count_by}
use Rattle.std.proofs.lemmas.Int.{ints}
use Rattle.std.proofs.lemmas.List.Elements.{All-weaker, filter_passes}
use Rattle.std.proofs.lemmas.List.Sums.{length-filter}
use Rattle.kat_linear.specs.Rows.{Form}
use Rattle.kat_fm.specs.Combinations.{Combination, at, counted, given}
use Rattle.kat_fm.specs.Points.{Taken}
use Rattle.kat_fm.specs.Eliminations.{Solution, is_plus, is_minus, is_rest, contradiction, tidied, choice_from, couples, go_on, step, begin, rounds, elim_of}
use Rattle.kat_fm.specs.Eliminations.Solution.{crowded}
use Rattle.kat_fm.specs.EntryViews.{behind}
use Rattle.kat_fm.specs.Views.{taken_with}
use Rattle.kat_fm.proofs.Couplings.{combined_in}

above_zero : (z : ℤ) → int_lt (pos 0) z ≡ true → pos 0 <ℤ z
above_zero z e = grind (arith, ints)

pub plus_above : (v : ℕ) (rows plus : List Combination) → plus ≡ filter (is_plus v) rows → All (λ p. pos 0 <ℤ at v p) plus
plus_above v rows plus e =
    let P : List Combination → Type 0 = λ xs. All (λ p. pos 0 <ℤ at v p) xs in
    subst P (sym e) (All-weaker (λ p. is_plus v p ≡ true) (λ p. pos 0 <ℤ at v p) (λ p h. above_zero (at v p) h) (filter (is_plus v) rows) (filter_passes (is_plus v) rows))

-- the result of a variable that is taken from tidied rows
taken_is : (onward : List Taken → List Combination → Solution) (vars v : ℕ) (taken : List Taken) (tidy : List Combination)
    → taken_with onward v taken (filter (is_plus v) tidy) (filter (is_minus v) tidy) (filter (is_rest v) tidy) ≡ step vars taken tidy onward (Some v)
taken_is onward vars v taken tidy =
    let go = go_on (onward (record { variable = v; minus = filter (is_minus v) tidy; plus = filter (is_plus v) tidy } ∷ taken)) (behind (combined_in v) (couples (filter (is_plus v) tidy) (filter (is_minus v) tidy)) (filter (is_rest v) tidy)) in
    let decide : ℕ → ℕ → ℕ → Solution = λ a b k. if nat_lt 20_000 (a * b + k) then crowded a b k else go in
    ap (λ a. decide a (length (filter (is_minus v) tidy)) (length (filter (is_rest v) tidy))) (length-filter (is_plus v) tidy)
    ∙ ap (λ b. decide (count_by (is_plus v) tidy) b (length (filter (is_rest v) tidy))) (length-filter (is_minus v) tidy)
    ∙ ap (λ k. decide (count_by (is_plus v) tidy) (count_by (is_minus v) tidy) k) (length-filter (is_rest v) tidy)

pub step_takes : (onward : List Taken → List Combination → Solution) (vars v : ℕ) (taken : List Taken) (tidy plus minus rest : List Combination) → choice_from tidy None (counted 0 vars) ≡ Some v
    → plus ≡ filter (is_plus v) tidy → minus ≡ filter (is_minus v) tidy → rest ≡ filter (is_rest v) tidy → taken_with onward v taken plus minus rest ≡ step vars taken tidy onward (choice_from tidy None (counted 0 vars))
step_takes onward vars v taken tidy plus minus rest choice p m r =
    ap (λ x. taken_with onward v taken x minus rest) p
    ∙ ap (λ x. taken_with onward v taken (filter (is_plus v) tidy) x rest) m
    ∙ ap (λ x. taken_with onward v taken (filter (is_plus v) tidy) (filter (is_minus v) tidy) x) r
    ∙ taken_is onward vars v taken tidy
    ∙ ap (step vars taken tidy onward) (sym choice)

-- a round is a step of tidy rows
pub begins_tidy : (onward : List Taken → List Combination → Solution) (vars : ℕ) (taken : List Taken) (now tidy : List Combination) → contradiction now ≡ None → tidy ≡ tidied now
    → step vars taken tidy onward (choice_from tidy None (counted 0 vars)) ≡ begin vars taken now onward (contradiction now)
begins_tidy onward vars taken now tidy none is =
    ap (λ x. step vars taken x onward (choice_from x None (counted 0 vars))) is ∙ ap (begin vars taken now onward) (sym none)

pub elim_is : (forms : List Form) (vars : ℕ) → rounds (suc vars) vars [] (given vars forms) ≡ elim_of forms vars
unfolding elim_of
elim_is forms vars = refl

-- one round of those that are left
pub round_goes : (vars done : ℕ) (taken : List Taken) (now : List Combination) → done < suc vars → rounds (suc vars - done) vars taken now ≡ begin vars taken now (rounds (suc vars - (done + 1)) vars) (contradiction now)
round_goes vars done taken now h = let left : suc vars - done ≡ suc (suc vars - (done + 1)) = omega arith in ap (λ n. rounds n vars taken now) left

pub ok_gives : {X E : Type 0} (r : Result X E) (P : X → Type 0) (x : X) → IfOk r P → r ≡ Ok x → P x
ok_gives {X} {E} r P x h e = let Q : Result X E → Type 0 = λ k. IfOk k P in subst Q e h
