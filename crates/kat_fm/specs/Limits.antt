-- Arithmetic that stops at a limit, with the two numbers of the first product or sum that passes it.
use Rattle.std.specs.Prelude.{ℕ, ℤ, ◌+ℤ◌, ◌*ℤ◌, unsigned_abs, nat_le, if◌then◌else◌, List, [], ◌∷◌, zip}

-- what was computed, or the two numbers whose product or sum passes the limit
pub data Checked (A : Type 0) : Type 0 where
  fits : A → Checked A
  passes : ℤ → ℤ → Checked A

abbrev pub and_then : {A B : Type 0} → Checked A → (A → Checked B) → Checked B
and_then (fits a) f = f a
and_then (passes left right) f = passes left right

-- the result of two numbers, if it is at most the limit in absolute value
abbrev pub within : ℕ → ℤ → ℤ → ℤ → Checked ℤ
within limit left right z = if nat_le (unsigned_abs z) limit then fits z else passes left right

abbrev pub checked_product : ℕ → ℤ → ℤ → Checked ℤ
checked_product limit a b = within limit a b (a *ℤ b)

abbrev pub checked_sum : ℕ → ℤ → ℤ → Checked ℤ
checked_sum limit a b = within limit a b (a +ℤ b)

-- f p + g n: the two products in turn, then their sum
abbrev pub weighed : ℕ → ℤ → ℤ → ℤ → ℤ → Checked ℤ
weighed limit f p g n = and_then (checked_product limit f p) (λ x. and_then (checked_product limit g n) (λ y. checked_sum limit x y))

-- each in turn, up to the first that passes its limit
abbrev pub checked_map : {A B : Type 0} → (A → Checked B) → List A → Checked (List B)
checked_map f [] = fits []
checked_map f (x ∷ xs) = and_then (f x) (λ y. and_then (checked_map f xs) (λ ys. fits (y ∷ ys)))

-- f p + g n of two lists, number by number
abbrev pub weighed_all : ℕ → ℤ → List ℤ → ℤ → List ℤ → Checked (List ℤ)
weighed_all limit f ps g ns = checked_map (λ (x : ℤ × ℤ). weighed limit f x.0 g x.1) (zip ps ns)

-- the sum so far, and then coefficient times number, one after the other
abbrev pub checked_dot : ℕ → ℤ → List ℤ → List ℤ → Checked ℤ
checked_dot limit sum [] ns = fits sum
checked_dot limit sum (c ∷ cs) [] = fits sum
checked_dot limit sum (c ∷ cs) (n ∷ ns) = and_then (checked_product limit c n) (λ x. and_then (checked_sum limit sum x) (λ s. checked_dot limit s cs ns))

-- each number times one factor
abbrev pub checked_scaled : ℕ → List ℤ → ℤ → Checked (List ℤ)
checked_scaled limit ns v = checked_map (λ n. checked_product limit n v) ns
