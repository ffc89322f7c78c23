-- Used inside only.
-- The hints of a line as a relation, with a rule for each kind of turn.
use Rattle.std.specs.Prelude.{ℕ, ◌+◌, ◌<◌, ℤ, List, [], ◌∷◌, ◌++◌, length}
use Rattle.std.specs.List.{Contains}
use Rattle.kat_clause.specs.Tables.{clause_at}
use Rattle.kat_clause.specs.Hints.{Falsifies, IsOnlyOpen, put_before}

-- the clause has this literal to give
pub record IsUnit (known clause : List ℤ) (m : ℤ) : Type 0 where
  pub only : IsOnlyOpen known clause m
  pub fresh : Contains known m → ⊥

-- the clause has some literal to give
abbrev pub Gives : List ℤ → List ℤ → Type 0
Gives known clause = (m : ℤ) × IsUnit known clause m

-- no clause is so; the one at this place is the first
abbrev pub IsNone : (List ℤ → Type 0) → List (List ℤ) → Type 0
IsNone P clauses = (j : ℕ) → j < length clauses → P (clause_at clauses j) → ⊥

pub record IsFirst (P : List ℤ → Type 0) (clauses : List (List ℤ)) (i : ℕ) : Type 0 where
  pub within : i < length clauses
  pub here : P (clause_at clauses i)
  pub before : (j : ℕ) → j < i → P (clause_at clauses j) → ⊥

-- from a set of literals on, these hints are found
pub data Chooses (clauses : List (List ℤ)) : List ℤ → List ℕ → Type 0 where
  ends : (known : List ℤ) (i : ℕ) → IsFirst (Falsifies known) clauses i → Chooses clauses known ((i + 1) ∷ [])
  goes : (known : List ℤ) (i : ℕ) (m : ℤ) (later : List ℕ) → IsNone (Falsifies known) clauses → IsFirst (Gives known) clauses i → IsUnit known (clause_at clauses i) m → Chooses clauses (known ++ m ∷ []) later → Chooses clauses known (put_before clauses (i + 1) m later)
