-- Hints (after the hints of LRAT, Cruz-Filipe, Heule, Hunt, Kaufmann and Schneider-Kamp 2017): which clauses show, one after
-- the other, that a line follows. A hint is the number of a clause, from 1.
use Rattle.std.specs.Prelude.{◌≢◌, ℕ, zero, suc, ◌+◌, ◌-◌, ◌<◌, ◌≤◌, ℤ, pos, neg_ℤ, List, [], ◌∷◌, ◌++◌, length, Bool, not, ◌&&◌, ◌||◌, if◌then◌else◌, Option, Some, None, option_map, flat_map}
use Rattle.std.specs.List.{All, Contains, list_any, list_all}
use Rattle.std.specs.Ordering.{int_eq}
use Rattle.kat_clause.specs.Clauses.{opposites}
use Rattle.kat_clause.specs.Tables.{clause_at}

-- the clause of a number
abbrev pub numbered : List (List ℤ) → ℕ → List ℤ
numbered clauses hint = clause_at clauses (hint - 1)

-- each is the number of one of this many clauses
abbrev pub AreNumbers : ℕ → List ℕ → Type 0
AreNumbers count hints = All (λ hint. (0 < hint) × (hint ≤ count)) hints

-- the set has the opposites of all the clause's literals
abbrev pub Falsifies : List ℤ → List ℤ → Type 0
Falsifies known clause = (k : ℤ) → Contains clause k → Contains known (neg_ℤ k)

-- just this literal of the clause has its opposite not in the set
pub record IsOnlyOpen (known clause : List ℤ) (m : ℤ) : Type 0 where
  pub has : Contains clause m
  pub free : Contains known (neg_ℤ m) → ⊥
  pub others : (k : ℤ) → Contains clause k → k ≢ m → Contains known (neg_ℤ k)

-- From a set of literals on: the clause of each hint but the last has just one literal whose opposite isn't in the set so
-- far, and that literal joins the set; the last hint's clause is falsified.
abbrev pub Leads : List (List ℤ) → List ℤ → List ℕ → Type 0
Leads clauses known [] = ⊥
Leads clauses known (hint ∷ []) = Falsifies known (numbered clauses hint)
Leads clauses known (hint ∷ next ∷ more) = (m : ℤ) × IsOnlyOpen known (numbered clauses hint) m × Leads clauses (known ++ m ∷ []) (next ∷ more)

-- The hints show that the line follows: they lead on from the opposites of its literals.
abbrev pub IsHinted : List (List ℤ) → List ℤ → List ℕ → Type 0
IsHinted clauses line hints = Leads clauses (opposites line) hints

-- The hints that are found for a line. First the tests.
abbrev pub has_literal : List ℤ → ℤ → Bool
has_literal known k = list_any (λ l. int_eq l k) known

abbrev pub is_falsified : List ℤ → List ℤ → Bool
is_falsified known clause = list_all (λ k. has_literal known (neg_ℤ k)) clause

-- the clause's first literal whose opposite isn't in the set
abbrev pub open_literal : List ℤ → List ℤ → ℤ
open_literal known [] = pos 0
open_literal known (k ∷ ks) = if has_literal known (neg_ℤ k) then open_literal known ks else k

-- just this literal of the clause has its opposite not in the set, and it isn't in the set itself
abbrev pub gives_literal : List ℤ → List ℤ → ℤ → Bool
gives_literal known clause m =
    has_literal clause m && (not (has_literal known (neg_ℤ m)) && (not (has_literal known m) && list_all (λ k. int_eq k m || has_literal known (neg_ℤ k)) clause))

-- the clause has one literal to give
abbrev pub is_unit : List ℤ → List ℤ → Bool
is_unit known clause = gives_literal known clause (open_literal known clause)

-- the place of the first clause that passes
abbrev pub first_place : (List ℤ → Bool) → List (List ℤ) → Option ℕ
first_place test [] = None
first_place test (clause ∷ clauses) = if test clause then Some 0 else option_map suc (first_place test clauses)

-- A hint that gave a literal, before those that stayed after it: it stays if the literal's opposite is in the clause of
-- one of them.
abbrev pub put_before : List (List ℤ) → ℕ → ℤ → List ℕ → List ℕ
put_before clauses hint m later = if list_any (λ n. has_literal (numbered clauses n) (neg_ℤ m)) later then hint ∷ later else later

-- a turn: the first falsified clause is the last hint; else the first clause with one literal to give is the next
abbrev pub at_turn : List (List ℤ) → List ℤ → Option ℕ → Option ℕ → (ℤ → List ℕ) → List ℕ
at_turn clauses known (Some i) unit rest = (i + 1) ∷ []
at_turn clauses known None (Some i) rest = let m = open_literal known (clause_at clauses i) in put_before clauses (i + 1) m (rest m)
at_turn clauses known None None rest = []

-- the hints that this many turns find, from a set of literals on
unfoldable pub hints_in : ℕ → List (List ℤ) → List ℤ → List ℕ
hints_in zero clauses known = []
hints_in (suc turns) clauses known = at_turn clauses known (first_place (is_falsified known) clauses) (first_place (is_unit known) clauses) (λ m. hints_in turns clauses (known ++ m ∷ []))

-- the clauses' literals
abbrev pub literals_in : List (List ℤ) → List ℤ
literals_in clauses = flat_map (λ clause. clause) clauses

-- The hints of a line that follows; none if it doesn't. Each turn but the last gives a literal that wasn't there.
unfoldable pub hints_of : List (List ℤ) → List ℤ → List ℕ
hints_of clauses line = hints_in (suc (length (literals_in clauses))) clauses (opposites line)
