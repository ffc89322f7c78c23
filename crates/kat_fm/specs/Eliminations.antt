-- Elimination after Fourier and Motzkin, with multipliers: variable by variable, each lower bound with each upper bound.
use Rattle.std.specs.Prelude.{ℕ, zero, suc, ◌+◌, ◌*◌, ℤ, pos, List, [], ◌∷◌, ◌++◌, map, filter, flat_map, count_by, Bool, ◌&&◌, ◌||◌, not, if◌then◌else◌, nat_le, nat_lt, int_lt, Option, Some, None}
use Rattle.std.specs.List.{list_any, list_all}
use Rattle.kat_linear.specs.Rows.{Form}
use Rattle.kat_fm.specs.Limits.{Checked, and_then, checked_map}
use Rattle.kat_fm.specs.Limits.Checked.{fits, passes}
use Rattle.kat_fm.specs.Combinations.{Combination, at, combination_of, given, counted}
use Rattle.kat_fm.specs.Points.{Taken, Values, point_of}
use Rattle.kat_fm.specs.Comparisons.{is_zero, has_variables, covers, exceeds}

-- What elimination answers: a point, as numerators over a denominator, that meets all rows; multipliers that show that
-- no point does; the plus rows, minus rows and other rows that would make more than 20,000; or the two numbers of the
-- first product or sum that passes its limit.
pub data Solution : Type 0 where
  met_at : ℤ → List ℤ → Solution
  refuted_by : List ℤ → Solution
  crowded : ℕ → ℕ → ℕ → Solution
  goes_wide : ℤ → ℤ → Solution

-- step 1: the multipliers of the first row without variables whose constant is above 0
abbrev pub contradiction : List Combination → Option (List ℤ)
contradiction [] = None
contradiction (row ∷ rows) = if not (has_variables row) && int_lt (pos 0) row.constant then Some row.multipliers else contradiction rows

-- step 2: of rows with equal coefficients the one with the greatest constant, the earliest on a tie; `before` are the rows before
abbrev pub strongest : List Combination → List Combination → List Combination
strongest before [] = []
strongest before (row ∷ rows) = (if list_any (λ other. covers other row) before || list_any (λ other. exceeds other row) rows then [] else row ∷ []) ++ strongest (before ++ row ∷ []) rows

-- the rows with variables, the strongest of equal ones
abbrev pub tidied : List Combination → List Combination
tidied rows = strongest [] (filter has_variables rows)

abbrev pub is_plus : ℕ → Combination → Bool
is_plus v row = int_lt (pos 0) (at v row)

abbrev pub is_minus : ℕ → Combination → Bool
is_minus v row = int_lt (at v row) (pos 0)

abbrev pub is_rest : ℕ → Combination → Bool
is_rest v row = is_zero (at v row)

abbrev pub pairs : ℕ → List Combination → ℕ
pairs v rows = count_by (is_plus v) rows * count_by (is_minus v) rows

-- step 3: the better of the variable so far and another
abbrev pub better : List Combination → Option ℕ → ℕ → Option ℕ
better rows None v = Some v
better rows (Some kept) v = if nat_le (pairs kept rows) (pairs v rows) then Some kept else Some v

-- of the variables that a row has the one with the least product of plus rows and minus rows, the earliest on a tie
abbrev pub choice_from : List Combination → Option ℕ → List ℕ → Option ℕ
choice_from rows kept [] = kept
choice_from rows kept (v ∷ vs) = choice_from rows (if list_all (is_rest v) rows then kept else better rows kept v) vs

-- step 4: each plus row with each minus row
abbrev pub couples : List Combination → List Combination → List (Combination × Combination)
couples ps ns = flat_map (λ p. map (λ n. (p, n)) ns) ps

-- the rows without the variable, then the combinations of those with it
abbrev pub next_rows : ℕ → List Combination → Checked (List Combination)
next_rows v rows =
    and_then (checked_map (λ (x : Combination × Combination). combination_of v x.0 x.1) (couples (filter (is_plus v) rows) (filter (is_minus v) rows))) (λ new.
    fits (filter (is_rest v) rows ++ new))

abbrev pub taken_at : ℕ → List Combination → Taken
taken_at v rows = record { variable = v; minus = filter (is_minus v) rows; plus = filter (is_plus v) rows }

abbrev pub answer_point : Checked Values → Solution
answer_point (fits p) = met_at p.den p.nums
answer_point (passes left right) = goes_wide left right

abbrev pub go_on : (List Combination → Solution) → Checked (List Combination) → Solution
go_on onward (fits new) = onward new
go_on onward (passes left right) = goes_wide left right

-- What is done with tidied rows, once a variable is chosen. `taken` are the variables taken so far, the last first, and
-- `onward` is what follows.
abbrev pub step : ℕ → List Taken → List Combination → (List Taken → List Combination → Solution) → Option ℕ → Solution
step vars taken tidy onward None = answer_point (point_of vars taken)
step vars taken tidy onward (Some v) =
    if nat_lt 20_000 (pairs v tidy + count_by (is_rest v) tidy)
    then crowded (count_by (is_plus v) tidy) (count_by (is_minus v) tidy) (count_by (is_rest v) tidy)
    else go_on (onward (taken_at v tidy ∷ taken)) (next_rows v tidy)

-- what is done with rows that have a contradiction, and with ones that have none
abbrev pub begin : ℕ → List Taken → List Combination → (List Taken → List Combination → Solution) → Option (List ℤ) → Solution
begin vars taken now onward (Some ms) = refuted_by ms
begin vars taken now onward None = step vars taken (tidied now) onward (choice_from (tidied now) None (counted 0 vars))

-- This many rounds at most. Each takes another variable, so one more than the variables are enough.
abbrev pub rounds : ℕ → ℕ → List Taken → List Combination → Solution
rounds zero vars taken now = crowded 0 0 0
rounds (suc more) vars taken now = begin vars taken now (rounds more vars) (contradiction now)

-- what elimination answers of given rows in so many variables
unfoldable pub elim_of : List Form → ℕ → Solution
elim_of forms vars = rounds (suc vars) vars [] (given vars forms)
