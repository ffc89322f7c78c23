-- Used inside only.
-- Rows that may be left out of a round, since the next one doesn't keep them.
use Rattle.std.specs.Prelude.{◌≡◌, ℤ, pos, List, ◌++◌, Result, Ok, Err, Option, Some, None, Bool, true, false, int_lt}
use Rattle.std.specs.List.{list_any}
use Rattle.kat_fm.specs.declared.arithmetic.Passed.{Passed}
use Rattle.kat_fm.specs.declared.working.Combination.{Combination as Working}
use Rattle.kat_fm.specs.Limits.{Checked}
use Rattle.kat_fm.specs.Limits.Checked.{fits, passes}
use Rattle.kat_fm.specs.Combinations.{Combination}
use Rattle.kat_fm.specs.Comparisons.{has_variables, covers}
use Rattle.kat_fm.specs.Points.{Taken}
use Rattle.kat_fm.specs.Eliminations.{Solution, contradiction, tidied}
use Rattle.kat_fm.specs.EntryViews.{combination_in}

-- with the same rows after both, the same contradiction is found in both, and the same rows are left of both
pub record AreAlike (rows others : List Combination) : Type 0 where
  pub found : (more : List Combination) → contradiction (rows ++ more) ≡ contradiction (others ++ more)
  pub left : (more : List Combination) → tidied (rows ++ more) ≡ tidied (others ++ more)

-- both are rows that are alike, or both stop at the same two numbers
abbrev pub GoAlike : Checked (List Combination) → Checked (List Combination) → Type 0
GoAlike (fits rows) (fits others) = AreAlike rows others
GoAlike (fits rows) (passes c d) = ⊥
GoAlike (passes a b) (fits others) = ⊥
GoAlike (passes a b) (passes c d) = (a ≡ c) × (b ≡ d)

-- what follows is the same for rows that are alike
abbrev pub IsSteady : (List Taken → List Combination → Solution) → Type 0
IsSteady onward = (taken : List Taken) (rows others : List Combination) → AreAlike rows others → onward taken rows ≡ onward taken others

-- a row may be left out after others: one of them covers it, or it has no variables and is no contradiction
pub data MayMiss (rows : List Combination) (row : Combination) : Type 0 where
  covered : has_variables row ≡ true → list_any (λ other. covers other row) rows ≡ true → MayMiss rows row
  idle : has_variables row ≡ false → int_lt (pos 0) row.constant ≡ false → MayMiss rows row

-- the row that is made, unless it may be left out, or the two numbers that stop it
abbrev pub IsMade : List Combination → Checked Combination → Result (Option Working) Passed → Type 0
IsMade rows made (Ok (Some row)) = fits (combination_in row) ≡ made
IsMade rows made (Ok None) = (row : Combination) × (fits row ≡ made) × MayMiss rows row
IsMade rows made (Err p) = passes p.left p.right ≡ made
