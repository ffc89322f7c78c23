-- Used inside only.
-- Resolution (Davis and Putnam 1960; Robinson 1965).
use Rattle.std.specs.Prelude.{◌≢◌, ◌⊎◌, ℤ, ◌<ℤ◌, neg_ℤ, unsigned_abs, List, Bool, not, nat_eq}
use Rattle.std.specs.List.{AllPairs, Contains}

-- the literals ascend, and so each occurs once
abbrev pub Ascends : List ℤ → Type 0
Ascends literals = AllPairs (λ (k l : ℤ). k <ℤ l) literals

-- a literal of one of the clauses, of another variable
abbrev pub IsResolved : List ℤ → List ℤ → ℤ → ℤ → Type 0
IsResolved first second var k = (Contains first k ⊎ Contains second k) × (k ≢ var) × (k ≢ neg_ℤ var)

-- the first clause has the variable, the second its negative, and neither has both
pub record Clashes (first second : List ℤ) (var : ℤ) : Type 0 where
  pub first_has : Contains first var
  pub first_alone : Contains first (neg_ℤ var) → ⊥
  pub second_has : Contains second (neg_ℤ var)
  pub second_alone : Contains second var → ⊥

-- the literal is of another variable
abbrev pub is_of_other : ℤ → ℤ → Bool
is_of_other var k = not (nat_eq (unsigned_abs k) (unsigned_abs var))
