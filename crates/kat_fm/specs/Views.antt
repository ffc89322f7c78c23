-- Used inside only.
-- What the parts of the code stand for.
use Rattle.std.specs.Prelude.{◌≡◌, ◌≢◌, ℕ, ◌+◌, ◌*◌, ◌<◌, ◌^◌, nat_lt, int_lt, count_by, length, ℤ, pos, List, [], ◌∷◌, map, reverse, Result, Ok, Err, Option, Some, None, option_map, Vec, Bool, ◌||◌, true, false, if◌then◌else◌, slice_index_or, take, drop}
use Rattle.std.specs.List.{All, list_any, filter}
use Rattle.std.specs.Global.{Global}
use Rattle.kat_fm.specs.declared.arithmetic.Passed.{Passed}
use Rattle.kat_fm.specs.declared.working.Combination.{Combination as Working}
use Rattle.kat_fm.specs.declared.working.Numbers.{Numbers}
use Rattle.kat_fm.specs.declared.working.Multipliers.{Multipliers}
use Rattle.kat_fm.specs.declared.choosing.Choice.{Choice}
use Rattle.kat_fm.specs.declared.choosing.Counts.{Counts}
use Rattle.kat_fm.specs.declared.returning.Taken.{Taken as TakenRows}
use Rattle.kat_fm.specs.declared.Round.{Round}
use Rattle.kat_fm.specs.declared.Round.TheVariants.{Ends, GoesOn}
use Rattle.kat_fm.specs.Limits.{Checked}
use Rattle.kat_fm.specs.Limits.Checked.{fits, passes}
use Rattle.kat_fm.specs.EntryViews.{checked_of, numbers_in, multipliers_of, combination_in, behind}
use Rattle.kat_fm.specs.Combinations.{Combination, at, combination_of}
use Rattle.kat_fm.specs.Points.{Taken}
use Rattle.kat_fm.specs.Eliminations.{Solution, is_plus, is_minus, pairs, couples, go_on}
use Rattle.kat_fm.specs.Comparisons.{has_variables, covers, exceeds}
use Rattle.kat_fm.specs.Eliminations.Solution.{crowded}
use Rattle.kat_fm.specs.Answers.{solution_of}

abbrev pub spread_numbers : Result Numbers Passed → Checked (List ℤ)
spread_numbers r = checked_of numbers_in r

abbrev pub spread_multipliers : Result Multipliers Passed → Checked (List ℤ)
spread_multipliers r = checked_of multipliers_of r

abbrev pub combination : Result Working Passed → Checked Combination
combination r = checked_of combination_in r

abbrev pub combinations : List Working → List Combination
combinations ws = map combination_in ws

-- what was appended to a list, or the two numbers that stopped it
abbrev pub appended : {A B : Type 0} → List B → Result A Passed → Checked (List B)
appended new (Ok a) = fits new
appended new (Err p) = passes p.left p.right

abbrev pub multipliers_in : Option (Vec ℤ Global) → Option (List ℤ)
multipliers_in found = option_map (λ (v : Vec ℤ Global). v.items) found

-- a row that is in none of the lists
abbrev pub no_row : Combination
no_row = record { coefficients = []; constant = pos 0; multipliers = [] }

-- a row isn't the strongest of those with its coefficients, by the rows before it and after it
abbrev pub is_beaten_by : List Combination → Combination → List Combination → Bool
is_beaten_by before row rows = list_any (λ other. covers other row) before || list_any (λ other. exceeds other row) rows

-- the same of the row at a place
abbrev pub is_beaten_at : List Combination → ℕ → Bool
is_beaten_at rows place = is_beaten_by (take place rows) (slice_index_or rows place no_row) (drop (place + 1) rows)

-- the numbered rows whose mark is true
abbrev pub marked : List Bool → List (ℕ × Working) → List Combination
marked marks rows = map (λ (p : ℕ × Working). combination_in p.1) (filter (λ (p : ℕ × Working). slice_index_or marks p.0 false) rows)

abbrev pub chosen : Option Choice → Option ℕ
chosen choice = option_map (λ (c : Choice). c.variable) choice

-- the best variable so far, if there is one, has the number of pairs that is kept of it
abbrev pub IsCounted : List Combination → Option Choice → Type 0
IsCounted rows None = Unit {0}
IsCounted rows (Some c) = c.pairs ≡ pairs c.variable rows

abbrev pub no_counts : Counts
no_counts = record { plus = 0; minus = 0 }

-- the counts are those of a variable
pub record IsCount (rows : List Combination) (v : ℕ) (counts : Counts) : Type 0 where
  pub plus : counts.plus ≡ count_by (is_plus v) rows
  pub minus : counts.minus ≡ count_by (is_minus v) rows

-- one row more can be counted
pub record IsRoom (counts : Counts) : Type 0 where
  pub plus : counts.plus < 2 ^ 63
  pub minus : counts.minus < 2 ^ 63

abbrev pub AreCounts : List Combination → List Counts → Type 0
AreCounts rows all = (v : ℕ) → v < length all → IsCount rows v (slice_index_or all v no_counts)

abbrev pub with_number : ℤ → Counts → Counts
with_number z counts = record { plus = counts.plus + (if int_lt (pos 0) z then 1 else 0); minus = counts.minus + (if int_lt z (pos 0) then 1 else 0) }

-- each variable's counts have the row too
abbrev pub AddsRow : Combination → List Counts → List Counts → Type 0
AddsRow row old new = (v : ℕ) → v < length old → slice_index_or new v no_counts ≡ with_number (at v row) (slice_index_or old v no_counts)

abbrev pub taken_in : TakenRows → Taken
taken_in t = record { variable = t.variable; minus = combinations t.minus.items; plus = combinations t.plus.items }

-- the variables taken, the last first
abbrev pub stack_of : List TakenRows → List Taken
stack_of ts = reverse (map taken_in ts)

-- no row is without variables, and none has the coefficients of another
abbrev pub AreDistinct : List Combination → Type 0
AreDistinct [] = Unit {0}
AreDistinct (row ∷ rows) = All (λ (other : Combination). other.coefficients ≢ row.coefficients) rows × AreDistinct rows

pub record AreTidy (rows : List Combination) : Type 0 where
  pub have : All (λ row. has_variables row ≡ true) rows
  pub distinct : AreDistinct rows

-- the rows are tidy, when a round goes on with ones that are said to be
abbrev pub KeepsTidy : Round → Type 0
KeepsTidy (Ends solved) = Unit {0}
KeepsTidy (GoesOn state) = state.tidy ≡ true → AreTidy (combinations state.rows.items)

-- what becomes of a round, if `onward` is what follows it
abbrev pub comes_to : (List Taken → List Combination → Solution) → Round → Solution
comes_to onward (Ends solved) = solution_of solved
comes_to onward (GoesOn state) = onward (stack_of state.taken.items) (combinations state.rows.items)

-- the result of a variable that is taken with its plus rows and minus rows, beside the other rows
abbrev pub taken_with : (List Taken → List Combination → Solution) → ℕ → List Taken → List Combination → List Combination → List Combination → Solution
taken_with onward v taken plus minus rest =
    if nat_lt 20_000 (length plus * length minus + length rest)
    then crowded (length plus) (length minus) (length rest)
    else go_on (onward (record { variable = v; minus = minus; plus = plus } ∷ taken)) (behind (λ (x : Combination × Combination). combination_of v x.0 x.1) (couples plus minus) rest)
