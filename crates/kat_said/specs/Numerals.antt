-- Numbers in digits, however many these are.
use Rattle.std.specs.Prelude.{ℕ, zero, suc, ◌+◌, ◌/◌, ◌%◌, nat_lt, if◌then◌else◌, ℤ, pos, negsuc, List, [], ◌∷◌}

-- the last digits of a number, this many at most, before others
abbrev pub digits_before : ℕ → ℕ → List ℕ → List ℕ
digits_before zero n others = others
digits_before (suc k) n others = if nat_lt n 10 then (48 + n) ∷ others else digits_before k (n / 10) ((48 + n % 10) ∷ others)

-- all digits of a number: it has no more of them than one more than it is
unfoldable pub numeral : ℕ → List ℕ
numeral n = digits_before (suc n) n []

-- a whole number: a sign if it is below 0, and its digits
abbrev pub whole_numeral : ℤ → List ℕ
whole_numeral (pos n) = numeral n
whole_numeral (negsuc n) = 45 ∷ numeral (suc n)
