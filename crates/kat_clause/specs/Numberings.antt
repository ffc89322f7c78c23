-- Used inside only.
-- Clauses by number.
use Rattle.std.specs.Prelude.{◌≡◌, ℕ, ◌+◌, ◌*◌, ◌<◌, ◌≤◌, ◌^◌, ◌⊎◌, ℤ, List, length}
use Rattle.std.specs.List.{Contains}
use Rattle.kat_clause.specs.Tables.{IsIndexOnce, IsNoted, AreSetsOf, clause_at}
use Rattle.kat_clause.specs.Findings.{HasTwo, AreShortAmong}

-- The greatest variable, and the clauses in the order of their numbers.
pub record Numbering : Type 0 where
  pub greatest : ℕ
  pub clauses : List (List ℤ)

-- Used inside only: the sets are the clauses', the table has each that no earlier one covers under each of its literals, and of
-- these the short ones are listed.
pub record IsNumbering (greatest : ℕ) (clauses sets : List (List ℤ)) (table : List (List ℕ)) (short : List ℕ) : Type 0 where
  pub are_sets : AreSetsOf clauses sets
  pub index : IsIndexOnce sets table
  pub size : length table ≡ 2 * greatest + 2
  pub limit : greatest ≤ 2 ^ 28
  pub count : length sets < 2 ^ 32
  pub listed : AreShortAmong sets short

-- one of the sets has no other literals than this one
abbrev pub Covers : List (List ℤ) → List ℤ → Type 0
Covers sets set = (j : ℕ) × (j < length sets) × ((k : ℤ) → Contains (clause_at sets j) k → Contains set k)

-- a set is noted by its number
abbrev pub IsNotedClause : List (List ℕ) → List ℕ → List ℤ → ℕ → Type 0
IsNotedClause table short set number = IsNoted table set number × (Contains short number ⊎ HasTwo set)
