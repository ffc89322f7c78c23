-- Used inside only.
-- A difference as the code has it.
use Rattle.std.specs.Prelude.{◌≡◌, ◌⊎◌, ℕ, ◌≤◌, ◌^◌, ℤ, pos, neg_ℤ, ◌+ℤ◌, ◌-ℤ◌, ◌≤ℤ◌, unsigned_abs, List, [], ◌∷◌, slice_index_or}
use Rattle.kat_linear.specs.Rows.{Form, Term}
use Rattle.kat_potential.specs.declared.differences.Difference.{Difference}

-- the terms of a difference: the lower variable less the higher one, in either order, or one alone; `nought` stands for none
abbrev pub AreTerms : ℕ → ℕ → ℕ → List Term → Type 0
AreTerms nought lower higher terms =
    ((higher ≡ nought) × (terms ≡ (lower, pos 1) ∷ []))
    ⊎ ((lower ≡ nought) × (terms ≡ (higher, neg_ℤ (pos 1)) ∷ []))
    ⊎ (terms ≡ (lower, pos 1) ∷ (higher, neg_ℤ (pos 1)) ∷ [])
    ⊎ (terms ≡ (higher, neg_ℤ (pos 1)) ∷ (lower, pos 1) ∷ [])

-- the row says that the lower variable and the gap are at most the higher one; the gap is at most 2^39 in absolute value
pub record IsRowOf (nought : ℕ) (form : Form) (d : Difference) : Type 0 where
  pub terms : AreTerms nought d.lower d.higher form.terms
  pub constant : form.constant ≡ d.gap
  pub narrow : unsigned_abs d.gap ≤ 2 ^ 39

-- the values meet a difference
abbrev pub AreApart : List ℤ → Difference → Type 0
AreApart values d = (slice_index_or values d.lower (pos 0) +ℤ d.gap) ≤ℤ slice_index_or values d.higher (pos 0)

-- the two say the opposite of each other of whole numbers
pub record IsOpposite (d other : Difference) : Type 0 where
  pub lower : other.lower ≡ d.higher
  pub higher : other.higher ≡ d.lower
  pub gap : other.gap ≡ pos 1 -ℤ d.gap
