-- Used inside only.
-- Values of variables as lists, and when they are a point's.
use Rattle.std.specs.Prelude.{◌≡◌, ℕ, ◌-◌, ◌<◌, ◌≤◌, ◌^◌, ℤ, pos, unsigned_abs, Bool, true, false, List, length, slice_index_or}
use Rattle.std.specs.List.{All}
use Rattle.kat_clause.specs.Valuations.{AreTrueClauses}
use Rattle.kat_form.specs.Encodings.{Encoding, Sense}
use Rattle.kat_form.specs.Encodings.Sense.{truth, atom, gate}
use Rattle.kat_linear.specs.Rows.{IsMet, negated_form}

-- the value of the propositional variable with a number, from 1, and the number of a number variable
abbrev pub value_at : List Bool → ℕ → Bool
value_at values v = slice_index_or values (v - 1) false

abbrev pub number_at : List ℤ → ℕ → ℤ
number_at nums v = slice_index_or nums v (pos 0)

-- if the variable stands for an atom, the value is that of its form at whole numbers
abbrev pub IsRead : (ℕ → ℤ) → Bool → Sense → Type 0
IsRead nums value (truth v) = Unit {0}
IsRead nums value (atom form) = (value ≡ true → IsMet 1 nums form) × (value ≡ false → IsMet 1 nums (negated_form form))
IsRead nums value gate = Unit {0}

abbrev pub AreRead : (ℕ → ℤ) → List Bool → List Sense → Type 0
AreRead nums values senses = (i : ℕ) → i < length senses → IsRead nums (slice_index_or values i false) (slice_index_or senses i gate)

-- the numbers and the values make all clauses true
pub record IsModel (e : Encoding) (numbers : ℕ) (nums : List ℤ) (values : List Bool) : Type 0 where
  pub count : length nums ≡ numbers
  pub narrow : All (λ n. unsigned_abs n ≤ 2 ^ 126) nums
  pub atoms : AreRead (number_at nums) values e.senses
  pub clauses : AreTrueClauses (value_at values) e.clauses
