-- Rows that elimination works on: combinations of the given rows.
use Rattle.std.specs.Prelude.{ℕ, zero, suc, ◌/◌, ◌%◌, ◌^◌, ℤ, pos, List, [], ◌∷◌, length, map, if◌then◌else◌, ◌==◌, unsigned_abs, slice_index_or, set, replicate}
use Rattle.kat_linear.specs.Rows.{Form, coefficient}
use Rattle.kat_fm.specs.Limits.{Checked, and_then, weighed, weighed_all}
use Rattle.kat_fm.specs.Limits.Checked.{fits}

-- A row with a coefficient for each variable, 0 if it has none, and with a multiplier for each given row.
pub record Combination : Type 0 where
  pub coefficients : List ℤ
  pub constant : ℤ
  pub multipliers : List ℤ

-- the numbers from one on, this many
abbrev pub counted : ℕ → ℕ → List ℕ
counted from zero = []
counted from (suc n) = from ∷ counted (suc from) n

-- this many numbers: 1 at a place, and 0 elsewhere
abbrev pub unit_at : ℕ → ℕ → List ℤ
unit_at place count = set (replicate count (pos 0)) place (pos 1)

-- a given row, of this many, with its own unit
abbrev pub given_at : ℕ → ℕ → ℕ → Form → Combination
given_at vars count place form = record { coefficients = map (λ v. coefficient v form) (counted 0 vars); constant = form.constant; multipliers = unit_at place count }

-- the given rows from a number on, of this many in all
abbrev pub given_from : ℕ → ℕ → ℕ → List Form → List Combination
given_from vars count place [] = []
given_from vars count place (form ∷ forms) = given_at vars count place form ∷ given_from vars count (suc place) forms

abbrev pub given : ℕ → List Form → List Combination
given vars forms = given_from vars (length forms) 0 forms

-- a row's coefficient of a variable
abbrev pub at : ℕ → Combination → ℤ
at v row = slice_index_or row.coefficients v (pos 0)

-- Euclid's algorithm, for this many steps
abbrev pub euclid : ℕ → ℕ → ℕ → ℕ
euclid zero a b = a
euclid (suc n) a b = if b == 0 then a else euclid n b (a % b)

-- the greatest common divisor
unfoldable pub gcd : ℕ → ℕ → ℕ
gcd a b = euclid (suc b) a b

-- f p + g n: the coefficients by variable, then the constant, then the multipliers
abbrev pub weighed_rows : ℤ → Combination → ℤ → Combination → Checked Combination
weighed_rows f p g n =
    and_then (weighed_all (2 ^ 126) f p.coefficients g n.coefficients) (λ cs.
    and_then (weighed (2 ^ 126) f p.constant g n.constant) (λ k.
    and_then (weighed_all (2 ^ 62) f p.multipliers g n.multipliers) (λ ms.
    fits (record { coefficients = cs; constant = k; multipliers = ms }))))

-- (b/g) p + (a/g) n, if the variable has the coefficient a in p and -b in n, and g is their greatest common divisor
unfoldable pub combination_of : ℕ → Combination → Combination → Checked Combination
combination_of v p n =
    let a = unsigned_abs (at v p) in
    let b = unsigned_abs (at v n) in
    weighed_rows (pos (b / gcd a b)) p (pos (a / gcd a b)) n
