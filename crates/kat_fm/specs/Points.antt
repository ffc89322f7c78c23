-- Going back: values for the variables that were taken, as numerators over one denominator.
use Rattle.std.specs.Prelude.{ℕ, ◌^◌, ℤ, pos, neg_ℤ, List, [], ◌∷◌, map, set, replicate, Bool, true, false, if◌then◌else◌, nat_le, int_lt, int_div, unsigned_abs}
use Rattle.kat_fm.specs.Limits.{Checked, and_then, checked_product, checked_sum, checked_dot, checked_scaled}
use Rattle.kat_fm.specs.Limits.Checked.{fits}
use Rattle.kat_fm.specs.Combinations.{Combination, at, gcd}

-- a variable that was taken, with its minus rows and its plus rows
pub record Taken : Type 0 where
  pub variable : ℕ
  pub minus : List Combination
  pub plus : List Combination

-- numerators over a denominator
pub record Values : Type 0 where
  pub den : ℤ
  pub nums : List ℤ

-- a bound: a numerator over the factor times the denominator
pub record Bound : Type 0 where
  pub numerator : ℤ
  pub factor : ℤ

-- The row's sum over the other variables, and then the constant times the denominator. The variable itself has the
-- numerator 0 as yet.
abbrev pub sum_at : Values → Combination → Checked ℤ
sum_at values row =
    and_then (checked_dot (2 ^ 126) (pos 0) row.coefficients values.nums) (λ s.
    and_then (checked_product (2 ^ 126) row.constant values.den) (λ k. checked_sum (2 ^ 126) s k))

-- a minus row's lower bound, or a plus row's upper bound
abbrev pub bound_at : Bool → ℕ → Values → Combination → Checked Bound
bound_at lower v values row = and_then (sum_at values row) (λ s. fits (record { numerator = if lower then s else neg_ℤ s; factor = pos (unsigned_abs (at v row)) }))

-- the new bound if it is better than the kept one: greater, of lower bounds, or less, of upper bounds
abbrev pub better_bound : Bool → Bound → Bound → Checked Bound
better_bound lower new kept =
    and_then (checked_product (2 ^ 126) new.numerator kept.factor) (λ l.
    and_then (checked_product (2 ^ 126) kept.numerator new.factor) (λ r.
    fits (if (if lower then int_lt r l else int_lt l r) then new else kept)))

-- the best bound of rows, each compared with the one kept so far
abbrev pub best_from : Bool → ℕ → Values → Bound → List Combination → Checked Bound
best_from lower v values kept [] = fits kept
best_from lower v values kept (row ∷ rows) =
    and_then (bound_at lower v values row) (λ new. and_then (better_bound lower new kept) (λ best. best_from lower v values best rows))

-- the best bound of rows, 0 if there are none
abbrev pub best_of : Bool → ℕ → Values → List Combination → Checked Bound
best_of lower v values [] = fits (record { numerator = pos 0; factor = pos 1 })
best_of lower v values (row ∷ rows) = and_then (bound_at lower v values row) (λ b. best_from lower v values b rows)

-- the greatest lower bound, or, if there is none, the least upper bound
abbrev pub bound_of : ℕ → Values → List Combination → List Combination → Checked Bound
bound_of v values [] plus = best_of false v values plus
bound_of v values (row ∷ rows) plus = best_of true v values (row ∷ rows)

-- the greatest common divisor of a number and all of a list
abbrev pub gcd_all : ℕ → List ℤ → ℕ
gcd_all g [] = g
gcd_all g (n ∷ ns) = gcd_all (gcd g (unsigned_abs n)) ns

-- all numbers divided by one that is above 1
abbrev pub divided : ℕ → Values → Values
divided g values = if nat_le g 1 then values else record { den = int_div values.den (pos g); nums = map (λ n. int_div n (pos g)) values.nums }

-- all numbers divided by their greatest common divisor
abbrev pub lowest : Values → Values
lowest values = divided (gcd_all (unsigned_abs values.den) values.nums) values

-- the values with one for a variable more
abbrev pub valued : ℕ → Values → Bound → Checked Values
valued v values b =
    and_then (checked_scaled (2 ^ 126) values.nums b.factor) (λ nums.
    and_then (checked_product (2 ^ 126) values.den b.factor) (λ d.
    fits (lowest (record { den = d; nums = set nums v b.numerator }))))

-- the values with one for each variable that was taken, in the order of the list
abbrev pub values_back : Values → List Taken → Checked Values
values_back values [] = fits values
values_back values (t ∷ ts) = and_then (bound_of t.variable values t.minus t.plus) (λ b. and_then (valued t.variable values b) (λ more. values_back more ts))

-- the point that the variables' rows give, the variable that was taken last first; one that no step took has 0
abbrev pub point_of : ℕ → List Taken → Checked Values
point_of vars taken = values_back (record { den = pos 1; nums = replicate vars (pos 0) }) taken
