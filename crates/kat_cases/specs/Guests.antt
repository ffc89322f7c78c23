-- Used inside only.
-- Used by kat_sat and inside only: what a walk's propagation needs of clauses under watch. A guest is a clause that is only
-- looked at.
use Rattle.std.specs.Prelude.{◌≡◌, ◌≢◌, ◌⊎◌, ℕ, ℤ, neg_ℤ, List, [], ◌∷◌, ◌++◌, Bool, true, false, Option, Some, None}
use Rattle.std.specs.List.{Contains}
use Rattle.kat_clause.specs.Clauses.{Derived, opposites}
use Rattle.kat_watch.specs.Watched.{IsLiteral, AreLiterals, IsOpen}
use Rattle.kat_cases.specs.declared.guests.Guest.{Guest}
use Rattle.kat_cases.specs.declared.guests.Guest.TheVariants.{Falsified, Idle, Unit as LastOpen}

-- the clauses with a guest after them, if there is one
abbrev pub with_guest : List (List ℤ) → Option (List ℤ) → List (List ℤ)
with_guest clauses None = clauses
with_guest clauses (Some guest) = clauses ++ guest ∷ []

-- no literal is derived together with its opposite
abbrev pub AreApart : List (List ℤ) → List ℤ → Type 0
AreApart clauses given = (k : ℤ) → Derived clauses (opposites given) k → Derived clauses (opposites given) (neg_ℤ k) → ⊥

-- the given literals make all literals of the clause false but this one
abbrev pub IsLastOpen : List (List ℤ) → List ℤ → List ℤ → ℤ → Type 0
IsLastOpen clauses given guest m = Contains guest m × ((k : ℤ) → Contains guest k → k ≢ m → Derived clauses (opposites given) (neg_ℤ k))

-- two literals of the clause aren't denied
pub record HasTwoOpen (has : ℤ → Bool) (clause : List ℤ) : Type 0 where
  pub one : ℤ
  pub two : ℤ
  pub has_one : Contains clause one
  pub has_two : Contains clause two
  pub differ : two ≢ one
  pub open_one : has (neg_ℤ one) ≡ false
  pub open_two : has (neg_ℤ two) ≡ false

abbrev pub HasMarked : (ℤ → Bool) → List ℤ → Type 0
HasMarked has clause = (k : ℤ) × Contains clause k × (has k ≡ true)

-- what a clause is under marked literals
abbrev pub LooksAt : (ℤ → Bool) → List ℤ → Guest → Type 0
LooksAt has clause Falsified = (k : ℤ) → Contains clause k → has (neg_ℤ k) ≡ true
LooksAt has clause Idle = HasMarked has clause ⊎ HasTwoOpen has clause
LooksAt has clause (LastOpen m) = Contains clause m × (has (neg_ℤ m) ≡ false) × ((k : ℤ) → Contains clause k → k ≢ m → has (neg_ℤ k) ≡ true)

-- literals of the variables up to the greatest, none with its opposite: they may be assumed one after the other
pub record MayBeAssumed (greatest : ℕ) (literals : List ℤ) : Type 0 where
  pub are : AreLiterals greatest literals
  pub apart : (k : ℤ) → Contains literals k → Contains literals (neg_ℤ k) → ⊥

-- each literal of a path, the last one first, was open after those before it
abbrev pub IsPath : ℕ → List ℤ → Type 0
IsPath greatest [] = Unit {0}
IsPath greatest (l ∷ path) = IsLiteral greatest l × IsOpen path l × IsPath greatest path
