-- Used by kat_cases, kat_clause, kat_form, kat_point, kat_refute, kat_walks, kat_watch: the table of the clauses
-- that have a literal, and marks by a literal's code.
use Rattle.std.specs.Prelude.{◌≡◌, ◌≢◌, ℕ, ◌<◌, ℤ, neg_ℤ, List, [], length, Bool, true, false, slice_index_or, map, Vec}
use Rattle.std.specs.List.{Contains}
use Rattle.std.specs.Global.{Global}
use Rattle.kat_clause.specs.Clauses.{SameMembers}
use Rattle.kat_clause.specs.Literals.{code_of}

-- the codes of a literal and of its opposite are below a size
abbrev pub IsBelow : ℕ → ℤ → Type 0
IsBelow size k = (code_of k < size) × (code_of (neg_ℤ k) < size)

-- A code is marked.
abbrev pub IsMarked : List Bool → ℕ → Type 0
IsMarked marks code = slice_index_or marks code false ≡ true

abbrev pub clause_at : List (List ℤ) → ℕ → List ℤ
clause_at clauses i = slice_index_or clauses i []

-- an earlier clause has no other literals than this one: so this one is neither the first that is falsified nor, if none is, the
-- first that has a literal to give
abbrev pub IsCovered : List (List ℤ) → ℕ → Type 0
IsCovered clauses i = (j : ℕ) × (j < i) × ((k : ℤ) → Contains (clause_at clauses j) k → Contains (clause_at clauses i) k)

-- each of the sets has the literals of the clause in its place
pub record AreSetsOf (clauses sets : List (List ℤ)) : Type 0 where
  pub count : length sets ≡ length clauses
  pub each : (i : ℕ) → SameMembers (clause_at sets i) (clause_at clauses i)

-- the codes of all clauses' literals, and of their opposites, are below a size
abbrev pub AreBelow : ℕ → List (List ℤ) → Type 0
AreBelow size clauses = (i : ℕ) → i < length clauses → (k : ℤ) → Contains (clause_at clauses i) k → IsBelow size k

-- The table has each clause under each of its literals.
pub record IsIndex (clauses : List (List ℤ)) (table : List (List ℕ)) : Type 0 where
  pub below : AreBelow (length table) clauses
  pub occurrences : (i : ℕ) → i < length clauses → (k : ℤ) → Contains (clause_at clauses i) k → Contains (slice_index_or table (code_of k) []) i

-- The table has each clause that no earlier one covers under each of its literals.
pub record IsIndexOnce (clauses : List (List ℤ)) (table : List (List ℕ)) : Type 0 where
  pub below : AreBelow (length table) clauses
  pub occurrences : (i : ℕ) → i < length clauses → (IsCovered clauses i → ⊥) → (k : ℤ) → Contains (clause_at clauses i) k → Contains (slice_index_or table (code_of k) []) i

abbrev pub rows : List (Vec ℕ Global) → List (List ℕ)
rows table = map (λ (row : Vec ℕ Global). row.items) table

-- a list of numbers has become longer
abbrev pub Keeps : List ℕ → List ℕ → Type 0
Keeps old new = (i : ℕ) → Contains old i → Contains new i

-- each row of the table has become longer
pub record KeepsRows (old new : List (List ℕ)) : Type 0 where
  pub size : length new ≡ length old
  pub kept : (code : ℕ) → Keeps (slice_index_or old code []) (slice_index_or new code [])

-- each row of the table has what it had, except for one number
pub record KeepsBut (number : ℕ) (old new : List (List ℕ)) : Type 0 where
  pub size : length new ≡ length old
  pub kept : (code i : ℕ) → i ≢ number → Contains (slice_index_or old code []) i → Contains (slice_index_or new code []) i

-- the table has a number under each literal of a clause
abbrev pub IsNoted : List (List ℕ) → List ℤ → ℕ → Type 0
IsNoted table clause number = (k : ℤ) → Contains clause k → Contains (slice_index_or table (code_of k) []) number
