-- Used inside only.
-- The search for hints. Each clause has a place, up to which its literals have been passed, and clauses that
-- may give a literal are in a queue. A clause that an earlier one covers is passed over: the earlier one is always first.
use Rattle.std.specs.Prelude.{◌≡◌, ◌≢◌, ℕ, ◌+◌, ◌<◌, ◌≤◌, min, ℤ, pos, neg_ℤ, List, [], ◌∷◌, length, Bool, Option, Some, None, unwrap_or, nat_eq, ◌⊎◌, slice_index_or, Vec}
use Rattle.std.specs.List.{Contains}
use Rattle.std.specs.Global.{Global}
use Rattle.std.specs.HashMap.{HashMap, get}
use Rattle.kat_clause.specs.declared.finding.Place.{Place}
use Rattle.kat_clause.specs.declared.finding.Look.{Look}
use Rattle.kat_clause.specs.declared.finding.Look.TheVariants.{Falsified, Single, Several}
use Rattle.kat_clause.specs.declared.finding.Step.{Step}
use Rattle.kat_clause.specs.declared.finding.Walk.{Walk}
use Rattle.kat_clause.specs.Clauses.{Follows}
use Rattle.kat_clause.specs.Literals.{code_of}
use Rattle.kat_clause.specs.Tables.{IsMarked, clause_at, IsCovered}
use Rattle.kat_clause.specs.Propagations.{IsSet}
use Rattle.kat_clause.specs.Hints.{numbered, Falsifies, IsOnlyOpen, put_before, hints_of}
use Rattle.kat_clause.specs.Choices.{IsUnit}
use Rattle.kat_clause.specs.Queues.{Pushes}

-- the literal's opposite is marked
abbrev pub IsOpposed : List Bool → ℤ → Type 0
IsOpposed marks k = IsMarked marks (code_of (neg_ℤ k))

abbrev pub literal_at : List ℤ → ℕ → ℤ
literal_at clause j = slice_index_or clause j (pos 0)

-- the literals before the first place are opposed, and those before the second, except for the one at the first
pub record IsPlace (marks : List Bool) (clause : List ℤ) (place : Place) : Type 0 where
  pub first : (j : ℕ) → j < place.first → j < length clause → IsOpposed marks (literal_at clause j)
  pub second : (j : ℕ) → j < place.second → j < length clause → IsOpposed marks (literal_at clause j) ⊎ (literal_at clause j ≡ literal_at clause place.first)

-- the place of a clause, which is its start if none is kept
abbrev pub start : Place
start = record { first = 0; second = 0 }

abbrev pub place_of : {S : Type 0} → HashMap ℕ Place S → ℕ → Place
place_of places i = unwrap_or (get nat_eq places i) start

-- the place of one clause may be another; all others stay
abbrev pub PutsPlace : {S : Type 0} → ℕ → Place → HashMap ℕ Place S → HashMap ℕ Place S → Type 0
PutsPlace number place old new = (i : ℕ) → (place_of new i ≡ place_of old i) ⊎ ((i ≡ number) × (place_of new i ≡ place))

-- all literals are opposed; not all are; not all but one are
abbrev pub AllOpposed : List Bool → List ℤ → Type 0
AllOpposed marks clause = (k : ℤ) → Contains clause k → IsOpposed marks k

abbrev pub OthersOpposed : List Bool → List ℤ → ℤ → Type 0
OthersOpposed marks clause m = (k : ℤ) → Contains clause k → k ≢ m → IsOpposed marks k

abbrev pub IsLook : List Bool → List ℤ → Look → Type 0
IsLook marks clause Falsified = AllOpposed marks clause
IsLook marks clause Single = AllOpposed marks clause → ⊥
IsLook marks clause Several = (AllOpposed marks clause → ⊥) × ((m : ℤ) → OthersOpposed marks clause m → ⊥)

-- the lesser of a number and one that may be there
abbrev pub least_of : Option ℕ → ℕ → ℕ
least_of None n = n
least_of (Some m) n = min m n

-- what a look at a clause changes: which clause is falsified, and the queue
abbrev pub Notes : Look → ℕ → Option ℕ → List ℕ → Option ℕ → List ℕ → Type 0
Notes Falsified number falsified queue falsified' queue' = (falsified' ≡ Some (least_of falsified number)) × (queue' ≡ queue)
Notes Single number falsified queue falsified' queue' = (falsified' ≡ falsified) × Pushes number queue queue'
Notes Several number falsified queue falsified' queue' = (falsified' ≡ falsified) × (queue' ≡ queue)

-- what is always so of a search
pub record IsWalk (clauses : List (List ℤ)) (walk : Walk) : Type 0 where
  pub is_set : IsSet walk.set
  pub placed : (i : ℕ) → i < length clauses → IsPlace walk.set.marks.items (clause_at clauses i) (place_of walk.places i)
  pub ending : (i : ℕ) → walk.falsified ≡ Some i → (i < length clauses) × Falsifies walk.set.trail.items (clause_at clauses i)

-- a falsified clause is noticed, and so is one that has a literal to give
pub record IsNoticed (clause : List ℤ) (i : ℕ) (walk : Walk) : Type 0 where
  pub ended : Falsifies walk.set.trail.items clause → (j : ℕ) × (walk.falsified ≡ Some j) × (j ≤ i)
  pub queued : (m : ℤ) → IsUnit walk.set.trail.items clause m → Contains walk.queue i

-- so are all clauses that no earlier one covers, but those of some numbers
abbrev pub AreNoticed : List (List ℤ) → List ℕ → Walk → Type 0
AreNoticed clauses pending walk = (i : ℕ) → i < length clauses → (IsCovered clauses i → ⊥) → Contains pending i ⊎ IsNoticed (clause_at clauses i) i walk

-- the clauses of these numbers give this literal
abbrev pub AreGiving : List (List ℤ) → List ℕ → List ℤ → ℤ → Type 0
AreGiving clauses pending known m = (i : ℕ) → Contains pending i → i < length clauses → IsOnlyOpen known (clause_at clauses i) m

-- two literals of the clause are different
abbrev pub HasTwo : List ℤ → Type 0
HasTwo clause = (k : ℤ) × (l : ℤ) × Contains clause k × Contains clause l × (k ≢ l)

-- the numbers of all clauses that no earlier one covers and that don't have two different literals are among these
abbrev pub AreShortAmong : List (List ℤ) → List ℕ → Type 0
AreShortAmong clauses short = (i : ℕ) → i < length clauses → (IsCovered clauses i → ⊥) → Contains short i ⊎ HasTwo (clause_at clauses i)

-- the hints of steps that were taken, before those that stayed after them
abbrev pub restored : List (List ℤ) → List Step → List ℕ → List ℕ
restored clauses [] later = later
restored clauses (step ∷ steps) later = put_before clauses (step.number + 1) step.literal (restored clauses steps later)

-- the steps are of clauses
abbrev pub AreSteps : ℕ → List Step → Type 0
AreSteps count steps = (i : ℕ) (d : Step) → i < length steps → (slice_index_or steps i d).number < count

-- the marked literals are those in the clauses of hints
pub record IsNeeded (clauses : List (List ℤ)) (needed : List Bool) (hints : List ℕ) : Type 0 where
  pub into : (k : ℤ) → IsMarked needed (code_of k) → (n : ℕ) × Contains hints n × Contains (numbered clauses n) k
  pub from : (k : ℤ) (n : ℕ) → Contains hints n → Contains (numbered clauses n) k → IsMarked needed (code_of k)

-- the answer for a line
abbrev pub IsHintsOf : List (List ℤ) → List ℤ → Option (Vec ℕ Global) → Type 0
IsHintsOf clauses line None = Follows clauses line → ⊥
IsHintsOf clauses line (Some hints) = Follows clauses line × (hints.items ≡ hints_of clauses line)
