-- Reverse unit propagation (Goldberg and Novikov 2003). A literal is a variable's number or the negative of one, and a
-- clause is read as the set of its literals.
use Rattle.std.specs.Prelude.{◌≡◌, ◌≢◌, ◌↔◌, ℤ, neg_ℤ, List, map, Vec}
use Rattle.std.specs.List.{Contains}
use Rattle.std.specs.Global.{Global}

-- The least set of literals that has the opposite of each literal of the line, and has a literal of a clause wherever
-- it has the opposites of the clause's other literals.
pub data Derived (clauses : List (List ℤ)) (line : List ℤ) : ℤ → Type 0 where
  denied : (m l : ℤ) → Contains line l → m ≡ neg_ℤ l → Derived clauses line m
  forced : (m : ℤ) (clause : List ℤ) → Contains clauses clause → Contains clause m → ((k : ℤ) → Contains clause k → k ≢ m → Derived clauses line (neg_ℤ k)) → Derived clauses line m

-- The set falsifies a clause: it has the opposites of all the clause's literals.
abbrev pub IsFalsified : List (List ℤ) → List ℤ → List ℤ → Type 0
IsFalsified clauses line clause = (k : ℤ) → Contains clause k → Derived clauses line (neg_ℤ k)

-- The line follows from the clauses by unit propagation: the set falsifies one of them.
abbrev pub Follows : List (List ℤ) → List ℤ → Type 0
Follows clauses line = (clause : List ℤ) × Contains clauses clause × IsFalsified clauses line clause

-- clauses as lists of literals
abbrev pub lists : List (Vec ℤ Global) → List (List ℤ)
lists clauses = map (λ (clause : Vec ℤ Global). clause.items) clauses

-- the opposite of each literal: with the literals assumed, the line of their opposites is denied
abbrev pub opposites : List ℤ → List ℤ
opposites literals = map neg_ℤ literals

-- two lists have the same literals, however often and in whichever order: they are one set
abbrev pub SameMembers : List ℤ → List ℤ → Type 0
SameMembers a b = (k : ℤ) → Contains a k ↔ Contains b k

-- each clause of the one list is, as a set, a clause of the other
abbrev pub AreAmong : List (List ℤ) → List (List ℤ) → Type 0
AreAmong few many = (clause : List ℤ) → Contains few clause → (other : List ℤ) × Contains many other × SameMembers clause other
