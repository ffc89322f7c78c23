-- Used inside only.
-- Numbers that are taken out by size.
use Rattle.std.specs.Prelude.{◌≡◌, ℕ, suc, ◌≤◌, ◌⊎◌, List, length, map, Option, Some, None}
use Rattle.std.specs.List.{Contains}
use Rattle.std.specs.declared.cmp.Reverse.{Reverse}

abbrev pub numbers_of : List (Reverse ℕ) → List ℕ
numbers_of items = map (λ r. r.0) items

-- a number is put in
pub record Pushes (number : ℕ) (old new : List ℕ) : Type 0 where
  pub there : Contains new number
  pub kept : (n : ℕ) → Contains old n → Contains new n

-- the least number is removed, if there is one
abbrev pub Pops : List ℕ → List ℕ → Option ℕ → Type 0
Pops old new None = (n : ℕ) → Contains old n → ⊥
Pops old new (Some number) = ((n : ℕ) → Contains old n → (number ≤ n) × ((number ≡ n) ⊎ Contains new n)) × (suc (length new) ≡ length old)
