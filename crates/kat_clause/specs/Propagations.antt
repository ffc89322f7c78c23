-- Used inside only.
-- Used by kat_watch and inside only: one propagation, which literals are in the set so far, and which clauses have been looked at
-- since.
use Rattle.std.specs.Prelude.{◌≡◌, ◌≢◌, ℕ, ◌+◌, ◌<◌, ◌≤◌, ◌⊎◌, ℤ, pos, neg_ℤ, List, [], ◌∷◌, ◌++◌, length, take, set, Bool, true, false, Result, Ok, Err, if◌then◌else◌, slice_index_or}
use Rattle.std.specs.List.{Contains, sum_by}
use Rattle.std.specs.declared.alloc.AllocError.{AllocError}
use Rattle.kat_clause.specs.declared.propagation.Propagation.{Propagation}
use Rattle.kat_clause.specs.Clauses.{Derived, Follows, opposites}
use Rattle.kat_clause.specs.Literals.{code_of}
use Rattle.kat_clause.specs.Tables.{IsMarked, clause_at}

-- What propagation asks of a clause: if P has all its literals but one, M has that one, and P doesn't have all.
-- P k says that the opposite of k counts as known.
pub record IsSettled (clause : List ℤ) (P M : ℤ → Type 0) : Type 0 where
  pub unit : (m : ℤ) → Contains clause m → ((k : ℤ) → Contains clause k → k ≢ m → P k) → M m
  pub unfalsified : ((k : ℤ) → Contains clause k → P k) → ⊥

-- the literal is in the set; its opposite is
abbrev pub IsIn : Propagation → ℤ → Type 0
IsIn state m = IsMarked state.marks.items (code_of m)

abbrev pub IsDenied : Propagation → ℤ → Type 0
IsDenied state k = IsMarked state.marks.items (code_of (neg_ℤ k))

-- marks and trail tell the same set, and the trail has no literal twice
pub record IsSet (state : Propagation) : Type 0 where
  pub listed : (m : ℤ) → IsIn state m → Contains state.trail.items m
  pub marked : (m : ℤ) → Contains state.trail.items m → IsIn state m
  pub once : (i j : ℕ) → i < j → j < length state.trail.items → slice_index_or state.trail.items i (pos 0) ≢ slice_index_or state.trail.items j (pos 0)

-- nothing is in the set
pub record IsFresh (size : ℕ) (state : Propagation) : Type 0 where
  pub marks : length state.marks.items ≡ size
  pub set : IsSet state
  pub trail : state.trail.items ≡ []
  pub looked : state.looked ≡ 0
  pub seen : state.seen ≡ 0

-- each literal of the set is derived
abbrev pub IsSound : List (List ℤ) → List ℤ → Propagation → Type 0
IsSound clauses line state = (m : ℤ) → IsIn state m → Derived clauses line m

-- how many codes are not marked
abbrev pub unmarked : List Bool → ℕ
unmarked marks = sum_by (λ b. if b then 0 else 1) marks

-- the same literals, and as far
pub record SameSet (old new : Propagation) : Type 0 where
  pub marks : new.marks.items ≡ old.marks.items
  pub trail : new.trail.items ≡ old.trail.items
  pub looked : new.looked ≡ old.looked
  pub seen : new.seen ≡ old.seen

-- the set has grown, and nothing is looked up
pub record Grows (old new : Propagation) : Type 0 where
  pub size : length new.marks.items ≡ length old.marks.items
  pub marks : (code : ℕ) → IsMarked old.marks.items code → IsMarked new.marks.items code
  pub trail : take (length old.trail.items) new.trail.items ≡ old.trail.items
  pub longer : length old.trail.items ≤ length new.trail.items
  pub count : unmarked new.marks.items + length new.trail.items ≡ unmarked old.marks.items + length old.trail.items
  pub set : IsSet old → IsSet new
  pub looked : new.looked ≡ old.looked
  pub seen : new.seen ≡ old.seen

-- a literal enters the set, unless it is there
pub record Enters (old new : Propagation) (m : ℤ) : Type 0 where
  pub looked : new.looked ≡ old.looked
  pub seen : new.seen ≡ old.seen
  pub is : (IsIn old m × (new.marks.items ≡ old.marks.items) × (new.trail.items ≡ old.trail.items))
      ⊎ ((IsIn old m → ⊥) × (new.marks.items ≡ set old.marks.items (code_of m) true) × (new.trail.items ≡ old.trail.items ++ m ∷ []))

-- the last literals are out of the set, all but the first `kept`
pub record Leaves (old new : Propagation) (kept : ℕ) : Type 0 where
  pub size : length new.marks.items ≡ length old.marks.items
  pub trail : new.trail.items ≡ take kept old.trail.items
  pub set : IsSet new

-- if more than the first `count` clauses have been looked at, the set is empty
abbrev pub Unsees : Propagation → Propagation → ℕ → Type 0
Unsees old new count = (SameSet old new × (new.seen ≤ count)) ⊎ IsFresh (length old.marks.items) new

-- looking at a clause of the list keeps the set sound
abbrev pub KeepsSound : List ℤ → Propagation → Propagation → Type 0
KeepsSound clause old new = (clauses : List (List ℤ)) (line : List ℤ) → Contains clauses clause → IsSound clauses line old → IsSound clauses line new

-- what looking at a clause does: it finds it falsified, or settles it
abbrev pub Visits : List ℤ → Propagation → Propagation → Result Bool AllocError → Type 0
Visits clause old new (Err e) = SameSet old new
Visits clause old new (Ok true) = SameSet old new × ((clauses : List (List ℤ)) (line : List ℤ) → Contains clauses clause → IsSound clauses line old → Follows clauses line)
Visits clause old new (Ok false) = Grows old new × KeepsSound clause old new × IsSettled clause (IsDenied old) (IsIn new)

-- the set has grown by derived literals
pub record GrowsSoundly (clauses : List (List ℤ)) (old new : Propagation) : Type 0 where
  pub grows : Grows old new
  pub sound : (line : List ℤ) → IsSound clauses line old → IsSound clauses line new

-- the same of the clauses of these numbers
abbrev pub VisitsAll : List (List ℤ) → List ℕ → Propagation → Propagation → Result Bool AllocError → Type 0
VisitsAll clauses numbers old new (Err e) = GrowsSoundly clauses old new
VisitsAll clauses numbers old new (Ok true) = GrowsSoundly clauses old new × ((line : List ℤ) → IsSound clauses line old → Follows clauses line)
VisitsAll clauses numbers old new (Ok false) =
    GrowsSoundly clauses old new
    × ((i : ℕ) → i < length clauses → Contains numbers i → IsSettled (clause_at clauses i) (IsDenied old) (IsIn new))

-- The first `n` of the numbers have been looked at.
pub record HaveVisited (clauses : List (List ℤ)) (numbers : List ℕ) (n : ℕ) (old new : Propagation) : Type 0 where
  pub both : GrowsSoundly clauses old new
  pub settled : (j : ℕ) → j < n → slice_index_or numbers j 0 < length clauses → IsSettled (clause_at clauses (slice_index_or numbers j 0)) (IsDenied old) (IsIn new)

-- Literals that entered, the first `looked` of which have been looked up, with the first `seen` clauses: they are derived
-- from these clauses, the assumed ones are among them, and those that have been looked up settle each of these clauses.
pub record Stands (clauses : List (List ℤ)) (assumed trail : List ℤ) (looked seen : ℕ) : Type 0 where
  pub within : looked ≤ length trail
  pub among : seen ≤ length clauses
  pub derived : (m : ℤ) → Contains trail m → Derived (take seen clauses) (opposites assumed) m
  pub holds : (l : ℤ) → Contains assumed l → Contains trail l
  pub settled : (i : ℕ) → i < seen → IsSettled (clause_at clauses i) (λ k. Contains (take looked trail) (neg_ℤ k)) (Contains trail)

-- the same of a propagation
pub record Holds (clauses : List (List ℤ)) (assumed : List ℤ) (state : Propagation) : Type 0 where
  pub set : IsSet state
  pub stands : Stands clauses assumed state.trail.items state.looked state.seen

-- a propagation has gone on
pub record Advances (clauses : List (List ℤ)) (old new : Propagation) : Type 0 where
  pub size : length new.marks.items ≡ length old.marks.items
  pub trail : take (length old.trail.items) new.trail.items ≡ old.trail.items
  pub longer : length old.trail.items ≤ length new.trail.items
  pub holds : (assumed : List ℤ) → Holds clauses assumed old → Holds clauses assumed new

-- all clauses have been looked at since they were added
abbrev pub LooksAtNew : List (List ℤ) → Propagation → Propagation → Result Bool AllocError → Type 0
LooksAtNew clauses old new (Err e) = Advances clauses old new
LooksAtNew clauses old new (Ok true) = Advances clauses old new × ((assumed : List ℤ) → Holds clauses assumed old → Follows clauses (opposites assumed))
LooksAtNew clauses old new (Ok false) = Advances clauses old new × (length clauses ≤ new.seen)

-- all literals have been looked up
abbrev pub IsSettledState : List (List ℤ) → Propagation → Type 0
IsSettledState clauses state = (length clauses ≤ state.seen) × (length state.trail.items ≤ state.looked)

abbrev pub LooksUp : List (List ℤ) → Propagation → Propagation → Result Bool AllocError → Type 0
LooksUp clauses old new (Err e) = length clauses ≤ old.seen → Advances clauses old new
LooksUp clauses old new (Ok true) = length clauses ≤ old.seen → Advances clauses old new × ((assumed : List ℤ) → Holds clauses assumed old → Follows clauses (opposites assumed))
LooksUp clauses old new (Ok false) = length clauses ≤ old.seen → Advances clauses old new × IsSettledState clauses new
