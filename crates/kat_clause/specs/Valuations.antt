-- What clauses mean under a valuation of the variables.
use Rattle.std.specs.Prelude.{◌≢◌, ℕ, suc, ℤ, pos, negsuc, List, Bool, not, IsTrue}
use Rattle.std.specs.List.{Contains, All}

-- a literal's value if each variable has one
abbrev pub literal_value : (ℕ → Bool) → ℤ → Bool
literal_value values (pos n) = values n
literal_value values (negsuc n) = not (values (suc n))

-- some literal of the clause is true
abbrev pub IsTrueClause : (ℕ → Bool) → List ℤ → Type 0
IsTrueClause values clause = (k : ℤ) × Contains clause k × IsTrue (literal_value values k)

abbrev pub AreTrueClauses : (ℕ → Bool) → List (List ℤ) → Type 0
AreTrueClauses values clauses = All (IsTrueClause values) clauses

-- each literal is a variable's number or the negative of one
abbrev pub HasNoZero : List ℤ → Type 0
HasNoZero clause = (k : ℤ) → Contains clause k → k ≢ pos 0
