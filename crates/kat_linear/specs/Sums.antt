use Rattle.std.specs.Prelude.{◌≡◌, ℕ, suc, ◌<◌, ◌≤◌, ◌^◌, ◌⊎◌, ℤ, pos, ◌+ℤ◌, ◌*ℤ◌, ◌≤ℤ◌, ◌<ℤ◌, List, [], ◌∷◌, length, take, slice_index_or, unsigned_abs}
use Rattle.std.specs.List.{All}
use Rattle.kat_linear.specs.Rows.{Form, coefficient}

-- the greatest absolute value that linear arithmetic may reach
abbrev pub IsNarrow : ℤ → Type 0
IsNarrow z = unsigned_abs z ≤ 2 ^ 126

abbrev pub IsWide : ℤ → Type 0
IsWide z = 2 ^ 126 < unsigned_abs z

abbrev pub int_sum : List ℤ → ℤ
int_sum [] = pos 0
int_sum (z ∷ zs) = z +ℤ int_sum zs

-- each row's multiplier times one number of the row
abbrev pub products : (Form → ℤ) → List Form → List ℤ → List ℤ
products number [] ms = []
products number (row ∷ rows) [] = []
products number (row ∷ rows) (m ∷ ms) = (m *ℤ number row) ∷ products number rows ms

-- what the rows' numbers come to, each row times its multiplier
abbrev pub combined : (Form → ℤ) → List Form → List ℤ → ℤ
combined number rows ms = int_sum (products number rows ms)

-- each number, and each sum from the first number on, is narrow
abbrev pub StaysNarrow : List ℤ → Type 0
StaysNarrow zs = (k : ℕ) → k < length zs → IsNarrow (slice_index_or zs k (pos 0)) × IsNarrow (int_sum (take (suc k) zs))

-- some number, or some sum from the first number on, is wide
abbrev pub GoesWide : List ℤ → Type 0
GoesWide zs = (k : ℕ) × (k < length zs) × (IsWide (slice_index_or zs k (pos 0)) ⊎ IsWide (int_sum (take (suc k) zs)))

-- the multipliers' products and sums stay narrow, for the constants and for each variable
pub record AreNarrow (rows : List Form) (ms : List ℤ) : Type 0 where
  pub constants : StaysNarrow (products (λ (r : Form). r.constant) rows ms)
  pub coefficients : (v : ℕ) → StaysNarrow (products (coefficient v) rows ms)

-- the multipliers' products or sums go wide, for the constants or for some variable
abbrev pub AreWide : List Form → List ℤ → Type 0
AreWide rows ms = GoesWide (products (λ (r : Form). r.constant) rows ms) ⊎ ((v : ℕ) × GoesWide (products (coefficient v) rows ms))

-- Farkas' lemma's certificate: multipliers of at least 0 under which every variable cancels and the constants come
-- to more than 0
pub record IsCertificate (rows : List Form) (ms : List ℤ) : Type 0 where
  pub signs : All (λ m. pos 0 ≤ℤ m) ms
  pub cancels : (v : ℕ) → combined (coefficient v) rows ms ≡ pos 0
  pub above : pos 0 <ℤ combined (λ (r : Form). r.constant) rows ms
