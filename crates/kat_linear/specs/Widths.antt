-- The first product or sum that goes wide if multipliers of rows are checked.
use Rattle.std.specs.Prelude.{ℕ, ◌^◌, ℤ, ◌+ℤ◌, ◌*ℤ◌, List, [], ◌∷◌, ◌++◌, unsigned_abs, nat_le, if◌then◌else◌, Option, Some, None}
use Rattle.kat_linear.specs.Rows.{Term, Form, coefficient}
use Rattle.kat_linear.specs.Sums.{combined}

-- two numbers, if their result passes 2^126
abbrev pub pair_of : ℤ → ℤ → ℤ → Option (ℤ × ℤ)
pair_of a b z = if nat_le (unsigned_abs z) (2 ^ 126) then None else Some (a, b)

-- the first of two, if there is one
abbrev pub earlier : Option (ℤ × ℤ) → Option (ℤ × ℤ) → Option (ℤ × ℤ)
earlier (Some pair) other = Some pair
earlier None other = other

-- of the product of a multiplier and a number, and then of the sum so far and that product
abbrev pub pair_at : ℤ → ℤ → ℤ → Option (ℤ × ℤ)
pair_at m sum number = earlier (pair_of m number (m *ℤ number)) (pair_of sum (m *ℤ number) (sum +ℤ (m *ℤ number)))

-- along the terms, if each variable has a sum so far
abbrev pub pair_in_terms : ℤ → (ℕ → ℤ) → List Term → Option (ℤ × ℤ)
pair_in_terms m sums [] = None
pair_in_terms m sums (t ∷ ts) = earlier (pair_at m (sums t.0) t.1) (pair_in_terms m sums ts)

-- along a row's terms, and then of its constant; the rows before it, times their multipliers, give the sums so far
abbrev pub pair_in_row : List Form → List ℤ → ℤ → Form → Option (ℤ × ℤ)
pair_in_row before done m row =
    earlier (pair_in_terms m (λ v. combined (coefficient v) before done) row.terms) (pair_at m (combined (λ (r : Form). r.constant) before done) row.constant)

-- row by row, after the rows before
abbrev pub widths_from : List Form → List ℤ → List Form → List ℤ → Option (ℤ × ℤ)
widths_from before done [] ms = None
widths_from before done (row ∷ rows) [] = None
widths_from before done (row ∷ rows) (m ∷ ms) = earlier (pair_in_row before done m row) (widths_from (before ++ row ∷ []) (done ++ m ∷ []) rows ms)

-- the two numbers of the first product or sum that passes 2^126 in absolute value, if one does: row by row, in a row
-- by variable and then the constant, each product before its sum
abbrev pub widths : List Form → List ℤ → Option (ℤ × ℤ)
widths rows ms = widths_from [] [] rows ms
