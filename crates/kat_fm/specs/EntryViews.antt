-- Used inside only.
-- What rows, the bounds that they give and the values of variables stand for, with all their zeros.
use Rattle.std.specs.Prelude.{ℤ, List, ◌++◌, Result, Ok, Err, Vec}
use Rattle.std.specs.Global.{Global}
use Rattle.kat_fm.specs.declared.arithmetic.Passed.{Passed}
use Rattle.kat_fm.specs.declared.working.Combination.{Combination as Working}
use Rattle.kat_fm.specs.declared.working.Numbers.{Numbers}
use Rattle.kat_fm.specs.declared.working.Multipliers.{Multipliers}
use Rattle.kat_fm.specs.declared.values.Values.{Values as Fractions}
use Rattle.kat_fm.specs.declared.bounds.Bound.{Bound as Limit}
use Rattle.kat_fm.specs.Limits.{Checked, and_then, checked_map}
use Rattle.kat_fm.specs.Limits.Checked.{fits, passes}
use Rattle.kat_fm.specs.Combinations.{Combination}
use Rattle.kat_fm.specs.Points.{Values, Bound}
use Rattle.kat_fm.specs.Entries.{numbers_at}

abbrev pub checked_of : {A B : Type 0} → (A → B) → Result A Passed → Checked B
checked_of view (Ok a) = fits (view a)
checked_of view (Err p) = passes p.left p.right

abbrev pub number : Result ℤ Passed → Checked ℤ
number r = checked_of (λ (z : ℤ). z) r

abbrev pub numbers : Result (Vec ℤ Global) Passed → Checked (List ℤ)
numbers r = checked_of (λ (v : Vec ℤ Global). v.items) r

abbrev pub numbers_in : Numbers → List ℤ
numbers_in n = numbers_at n.count n.entries.items

abbrev pub multipliers_of : Multipliers → List ℤ
multipliers_of m = numbers_at m.count m.entries.items

abbrev pub combination_in : Working → Combination
combination_in w = record { coefficients = numbers_in w.coefficients; constant = w.constant; multipliers = multipliers_of w.multipliers }

-- each in turn, after what is there
abbrev pub behind : {A B : Type 0} → (A → Checked B) → List A → List B → Checked (List B)
behind f xs done = and_then (checked_map f xs) (λ ys. fits (done ++ ys))

abbrev pub values_in : Fractions → Values
values_in v = record { den = v.den; nums = v.nums.items }

abbrev pub values : Result Fractions Passed → Checked Values
values r = checked_of values_in r

abbrev pub bound_in : Limit → Bound
bound_in b = record { numerator = b.numerator; factor = b.factor }

abbrev pub bound : Result Limit Passed → Checked Bound
bound r = checked_of bound_in r
