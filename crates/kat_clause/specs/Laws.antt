-- Used inside only.
-- Laws of unit propagation, as the public calls state them.
use Rattle.std.specs.Prelude.{◌≢◌, ℕ, ℤ, neg_ℤ, List, Bool, IsTrue}
use Rattle.std.specs.List.{Contains, All}
use Rattle.kat_clause.specs.Clauses.{Derived, Follows, SameMembers, AreAmong}
use Rattle.kat_clause.specs.Valuations.{AreTrueClauses, IsTrueClause, HasNoZero}

-- a set has the opposite of each literal of the line, and a literal of a clause wherever it has the opposites of the
-- clause's other literals
pub record IsClosed (clauses : List (List ℤ)) (line : List ℤ) (has : ℤ → Bool) : Type 0 where
  pub denies : (l : ℤ) → Contains line l → IsTrue (has (neg_ℤ l))
  pub forces : (m : ℤ) (clause : List ℤ) → Contains clauses clause → Contains clause m → ((k : ℤ) → Contains clause k → k ≢ m → IsTrue (has (neg_ℤ k))) → IsTrue (has m)

-- each closed set has every derived literal
abbrev pub DerivedIsLeast : Type 0
DerivedIsLeast = (clauses : List (List ℤ)) (line : List ℤ) (has : ℤ → Bool) → IsClosed clauses line has → (m : ℤ) → Derived clauses line m → IsTrue (has m)

-- a line that follows is true wherever the clauses are
abbrev pub FollowingIsSound : Type 0
FollowingIsSound = (clauses : List (List ℤ)) (line : List ℤ) (values : ℕ → Bool) → All HasNoZero clauses → HasNoZero line → Follows clauses line → AreTrueClauses values clauses → IsTrueClause values line

-- clauses that are the same sets, in whichever order, and a line that is the same set: the same follows
abbrev pub FollowsSets : Type 0
FollowsSets = (clauses others : List (List ℤ)) (line same : List ℤ) → AreAmong clauses others → AreAmong others clauses → SameMembers line same → Follows clauses line → Follows others same

-- more clauses, as sets, and a line of more literals: no less follows
abbrev pub FollowsMore : Type 0
FollowsMore = (clauses more : List (List ℤ)) (line longer : List ℤ) → AreAmong clauses more → ((k : ℤ) → Contains line k → Contains longer k) → Follows clauses line → Follows more longer

-- more clauses, as sets, and a line of more literals: no less is derived. So what is derived depends on sets alone.
abbrev pub DerivedMore : Type 0
DerivedMore = (clauses more : List (List ℤ)) (line longer : List ℤ) → AreAmong clauses more → ((k : ℤ) → Contains line k → Contains longer k) → (m : ℤ) → Derived clauses line m → Derived more longer m
