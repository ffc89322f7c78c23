-- Used inside only.
-- What an index of clauses with an assignment stands for.
use Rattle.std.specs.Prelude.{◌≡◌, ℕ, ℤ, List, [], ◌∷◌, ◌++◌, Bool, false}
use Rattle.std.specs.List.{Contains}
use Rattle.kat_clause.specs.Literals.{IsUpTo}
use Rattle.kat_clause.specs.Clauses.{SameMembers}

-- The greatest variable; the clauses in the order in which they came, each as a set; the literals that are assumed, in
-- order; and whether the assignment is settled: all that the clauses give under the assumed literals is found, and none
-- is falsified.
pub record Known : Type 0 where
  pub greatest : ℕ
  pub clauses : List (List ℤ)
  pub assumed : List ℤ
  pub settled : Bool

-- the literals' variables are up to the greatest
abbrev pub AreUpTo : ℕ → List ℤ → Type 0
AreUpTo greatest clause = (k : ℤ) → Contains clause k → IsUpTo greatest k

-- a clause is added after the others, with the same literals
pub record Adds (clause : List ℤ) (old new : Known) : Type 0 where
  pub added : List ℤ
  pub same : SameMembers added clause
  pub is : new ≡ record old { clauses = old.clauses ++ added ∷ []; settled = false }
