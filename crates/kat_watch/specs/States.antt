-- Used inside only.
-- What is always so of the fields.
use Rattle.std.specs.Prelude.{◌≡◌, ◌≢◌, ℕ, ◌+◌, ◌-◌, ◌*◌, ◌%◌, ◌/◌, ◌<◌, ◌≤◌, ◌^◌, ◌⊎◌, ℤ, pos, neg_ℤ, unsigned_abs, List, [], ◌∷◌, ◌++◌, map, take, length, set, Bool, true, Option, Some, None, slice_index_or}
use Rattle.std.specs.List.{Contains}
use Rattle.std.specs.Vec.{vec_capacity}
use Rattle.std.specs.Bool.{MatchBool}
use Rattle.kat_clause.specs.Literals.{code_of}
use Rattle.kat_clause.specs.Tables.{IsMarked, clause_at}
use Rattle.kat_clause.specs.Propagations.{unmarked}
use Rattle.kat_links.specs.Lists.{Lists, list_at, with_first}
use Rattle.kat_watch.specs.declared.assignment.Assignment.{Assignment}
use Rattle.kat_watch.specs.declared.walking.Look.{Look}
use Rattle.kat_watch.specs.declared.walking.Look.TheVariants.{Done, Moves, Forced, Falsified}
use Rattle.kat_watch.specs.Watched.{Step, AreLiterals, IsOpen, Forces, IsFalsified, AreSupported, Grows, IsConflict}

abbrev pub reason_at : List (Option ℕ) → ℤ → Option ℕ
reason_at reasons k = slice_index_or reasons (unsigned_abs k) None

abbrev pub steps_of : List (Option ℕ) → List ℤ → List Step
steps_of reasons trail = map (λ (k : ℤ). record { literal = k; reason = reason_at reasons k }) trail

abbrev pub at : List ℤ → ℕ → ℤ
at trail i = slice_index_or trail i (pos 0)

-- marks and trail tell the same literals, each once, and no literal with its opposite
pub record IsSet (marks : List Bool) (trail : List ℤ) : Type 0 where
  pub listed : (m : ℤ) → IsMarked marks (code_of m) → Contains trail m
  pub marked : (m : ℤ) → Contains trail m → IsMarked marks (code_of m)
  pub once : (i j : ℕ) → i < j → j < length trail → at trail i ≢ at trail j
  pub apart : (m : ℤ) → Contains trail m → Contains trail (neg_ℤ m) → ⊥

pub record IsAssignment (clauses : List (List ℤ)) (a : Assignment) : Type 0 where
  pub limit : a.greatest ≤ 2 ^ 28
  pub marks : length a.marks.items ≡ 2 * a.greatest + 2
  pub reasons : length a.reasons.items ≡ a.greatest + 1
  pub set : IsSet a.marks.items a.trail.items
  pub literals : AreLiterals a.greatest a.trail.items
  pub count : unmarked a.marks.items + length a.trail.items ≡ 2 * a.greatest + 2
  pub room : 2 * a.greatest + 2 ≤ vec_capacity a.trail
  pub reach : length a.reach.items ≡ 2 * a.greatest + 2
  pub supported : AreSupported clauses (steps_of a.reasons.items a.trail.items)

-- A clause has two items: the number of each is twice the clause's, or one more. The other item of an item's clause:
abbrev pub partner : ℕ → ℕ
partner x = x + 1 - 2 * (x % 2)

abbrev pub Holds : List (List ℕ) → ℤ → ℕ → Type 0
Holds lists k x = Contains (list_at lists (code_of k)) x

-- the clause's two items are in the lists of two different literals of its own
pub record IsWatched (clause : List ℤ) (lists : List (List ℕ)) (c : ℕ) : Type 0 where
  pub one : ℤ
  pub two : ℤ
  pub has_one : Contains clause one
  pub has_two : Contains clause two
  pub differ : one ≢ two
  pub holds_one : Holds lists one (2 * c)
  pub holds_two : Holds lists two (2 * c + 1)

pub record AreWatched (greatest : ℕ) (clauses : List (List ℤ)) (lists : Lists) : Type 0 where
  pub limit : length clauses ≤ 2 ^ 28
  pub literals : (c : ℕ) → c < length clauses → AreLiterals greatest (clause_at clauses c)
  pub items : lists.items ≡ 2 * length clauses
  pub size : length lists.lists ≡ 2 * greatest + 2
  pub long : (l x : ℕ) → Contains (list_at lists.lists l) x → 2 ≤ length (clause_at clauses (x / 2))
  pub watched : (c : ℕ) → c < length clauses → 2 ≤ length (clause_at clauses c) → IsWatched (clause_at clauses c) lists.lists c

-- the other literal that the item's clause watches is true
abbrev pub IsDone : List (List ℕ) → List ℤ → ℕ → Type 0
IsDone lists trail x = (k : ℤ) × Holds lists k (partner x) × Contains trail k

abbrev pub place_at : List ℕ → ℕ → ℕ
place_at places j = slice_index_or places j 0

-- The lists of the literals that the first `looked` of the trail made false have been walked, each up to a place of the trail: its
-- items are done by the literals before it. These places climb.
pub record AreWalked (lists : List (List ℕ)) (trail : List ℤ) (reach : List ℕ) (looked : ℕ) : Type 0 where
  pub within : looked ≤ length trail
  pub far : (j : ℕ) → j < looked → place_at reach j ≤ length trail
  pub climb : (i j : ℕ) → i ≤ j → j < looked → place_at reach i ≤ place_at reach j
  pub done : (j x : ℕ) → j < looked → Holds lists (neg_ℤ (at trail j)) x → IsDone lists (take (place_at reach j) trail) x

abbrev pub HasTrue : List ℤ → List ℤ → Type 0
HasTrue clause trail = (k : ℤ) × Contains clause k × Contains trail k

-- the clauses of fewer than two literals, the first `seen` of which are true by the first `base` literals
pub record ArePassed (clauses : List (List ℤ)) (shorts : List ℕ) (trail : List ℤ) (seen base : ℕ) : Type 0 where
  pub within : seen ≤ length shorts
  pub numbers : (j : ℕ) → j < length shorts → (slice_index_or shorts j 0 < length clauses) × (length (clause_at clauses (slice_index_or shorts j 0)) < 2)
  pub short : (c : ℕ) → c < length clauses → length (clause_at clauses c) < 2 → Contains shorts c
  pub passed : (j : ℕ) → j < seen → HasTrue (clause_at clauses (slice_index_or shorts j 0)) (take base trail)

-- what is always so of the clauses' numbers and lists under an assignment
pub record IsCore (clauses : List (List ℤ)) (lists : Lists) (a : Assignment) : Type 0 where
  pub assigned : IsAssignment clauses a
  pub watched : AreWatched a.greatest clauses lists
  pub walked : AreWalked lists.lists a.trail.items a.reach.items a.looked

pub record IsState (clauses : List (List ℤ)) (shorts : List ℕ) (lists : Lists) (a : Assignment) : Type 0 where
  pub core : IsCore clauses lists a
  pub passed : ArePassed clauses shorts a.trail.items a.seen a.base

-- a literal is assigned
pub record Enters (old new : Assignment) (m : ℤ) (reason : Option ℕ) : Type 0 where
  pub greatest : new.greatest ≡ old.greatest
  pub marks : new.marks.items ≡ set old.marks.items (code_of m) true
  pub reasons : new.reasons.items ≡ set old.reasons.items (unsigned_abs m) reason
  pub trail : new.trail.items ≡ old.trail.items ++ m ∷ []
  pub looked : new.looked ≡ old.looked
  pub reach : new.reach.items ≡ old.reach.items
  pub seen : new.seen ≡ old.seen
  pub base : new.base ≡ old.base
  pub room : vec_capacity old.trail ≤ vec_capacity new.trail

-- What is found of an item in the list of a literal that is false.
abbrev pub Looks : List ℤ → List (List ℕ) → List ℤ → ℕ → Look → Type 0
Looks clause lists trail x Done = IsDone lists trail x
Looks clause lists trail x (Moves k) = Contains clause k × (Contains trail (neg_ℤ k) → ⊥) × (Holds lists k (partner x) → ⊥)
Looks clause lists trail x (Forced k) = Holds lists k (partner x) × Forces clause trail k × IsOpen trail k
Looks clause lists trail x Falsified = IsFalsified clause trail

-- the same by marks, if the other watched literal has a code and is not true
abbrev pub LooksAt : List ℤ → List Bool → ℕ → Look → Type 0
LooksAt clause marks other Done = ⊥
LooksAt clause marks other (Moves k) = Contains clause k × (code_of k ≢ other) × (IsMarked marks (code_of (neg_ℤ k)) → ⊥)
LooksAt clause marks other (Forced k) = (code_of k ≡ other) × ((j : ℤ) → Contains clause j → code_of j ≢ other → IsMarked marks (code_of (neg_ℤ j))) × (IsMarked marks (code_of (neg_ℤ k)) → ⊥)
LooksAt clause marks other Falsified = (j : ℤ) → Contains clause j → IsMarked marks (code_of (neg_ℤ j))

-- the steps that the fields stand for
abbrev pub steps : Assignment → List Step
steps a = steps_of a.reasons.items a.trail.items

-- an assignment has grown by literals that clauses force
pub record Advances (clauses : List (List ℤ)) (old new : Assignment) : Type 0 where
  pub greatest : new.greatest ≡ old.greatest
  pub grows : Grows clauses (steps old) (steps new)
  pub count : unmarked new.marks.items + length new.trail.items ≡ unmarked old.marks.items + length old.trail.items

-- All items in the list of a literal are done; or a clause is falsified.
abbrev pub Ends : List (List ℤ) → List (List ℕ) → List ℤ → ℤ → Option ℕ → Type 0
Ends clauses lists trail f None = (x : ℕ) → Holds lists f x → IsDone lists trail x
Ends clauses lists trail f (Some c) = IsConflict clauses trail c

-- a walk over the list of a literal that is false
pub record Walks (clauses : List (List ℤ)) (lists : Lists) (old new : Assignment) (f : ℤ) (result : Option ℕ) : Type 0 where
  pub core : IsCore clauses lists new
  pub advances : Advances clauses old new
  pub looked : new.looked ≡ old.looked
  pub reach : new.reach.items ≡ old.reach.items
  pub seen : new.seen ≡ old.seen
  pub base : new.base ≡ old.base
  pub ends : Ends clauses lists.lists new.trail.items f result

abbrev pub EndsAll : List (List ℤ) → Assignment → Option ℕ → Type 0
EndsAll clauses a None = length a.trail.items ≤ a.looked
EndsAll clauses a (Some c) = IsConflict clauses a.trail.items c

-- walks over the lists of all literals that have become false
pub record WalksAll (clauses : List (List ℤ)) (lists : Lists) (old new : Assignment) (result : Option ℕ) : Type 0 where
  pub core : IsCore clauses lists new
  pub advances : Advances clauses old new
  pub seen : new.seen ≡ old.seen
  pub base : new.base ≡ old.base
  pub ends : EndsAll clauses new result

-- a clause of fewer than two literals is looked at: it is true now, or falsified
pub record PassesOne (clauses : List (List ℤ)) (lists : Lists) (old new : Assignment) (c : ℕ) (falsified : Bool) : Type 0 where
  pub core : IsCore clauses lists new
  pub advances : Advances clauses old new
  pub seen : new.seen ≡ old.seen
  pub base : new.base ≡ old.base
  pub ends : MatchBool falsified (IsConflict clauses new.trail.items c) (HasTrue (clause_at clauses c) new.trail.items)

abbrev pub EndsShorts : List (List ℤ) → List ℕ → Assignment → Option ℕ → Type 0
EndsShorts clauses shorts a None = length shorts ≤ a.seen
EndsShorts clauses shorts a (Some c) = IsConflict clauses a.trail.items c

pub record PassesAll (clauses : List (List ℤ)) (shorts : List ℕ) (lists : Lists) (old new : Assignment) (result : Option ℕ) : Type 0 where
  pub state : IsState clauses shorts lists new
  pub advances : Advances clauses old new
  pub ends : EndsShorts clauses shorts new result

-- the last literals are taken back
pub record Leaves (old new : Assignment) (kept : ℕ) : Type 0 where
  pub greatest : new.greatest ≡ old.greatest
  pub marks : length new.marks.items ≡ length old.marks.items
  pub reasons : new.reasons.items ≡ old.reasons.items
  pub trail : new.trail.items ≡ take kept old.trail.items
  pub set : IsSet new.marks.items new.trail.items
  pub count : unmarked new.marks.items + length new.trail.items ≡ unmarked old.marks.items + length old.trail.items
  pub room : vec_capacity old.trail ≤ vec_capacity new.trail
  pub reach : new.reach.items ≡ old.reach.items
  pub base : new.base ≡ old.base

-- the last literals are taken back, and what was walked is told as before
pub record TakesBack (old new : Assignment) (kept : ℕ) : Type 0 where
  pub both : Leaves old new kept
  pub looked : new.looked ≡ old.looked
  pub seen : new.seen ≡ old.seen

-- and fewer are told as walked: those whose walk has seen no literal that is taken back
pub record Forgets (old new : Assignment) (kept : ℕ) : Type 0 where
  pub both : Leaves old new kept
  pub less : new.looked ≤ old.looked
  pub within : new.looked ≤ kept
  pub near : (new.looked ≡ 0) ⊎ (place_at old.reach.items (new.looked - 1) ≤ kept)
  pub seen : (new.seen ≡ 0) ⊎ ((new.seen ≡ old.seen) × (old.base ≤ kept))

-- a short clause's number is noted
pub record IsNoted (number : ℕ) (shorts shorts' : List ℕ) (lists lists' : Lists) (a a' : Assignment) : Type 0 where
  pub noted : shorts' ≡ shorts ++ number ∷ []
  pub same : lists' ≡ lists
  pub set : a' ≡ a

-- a clause's first two literals are watched, and all lists must be walked again
pub record StartsWatch (number : ℕ) (clause : List ℤ) (shorts shorts' : List ℕ) (lists lists' : Lists) (a a' : Assignment) : Type 0 where
  pub noted : shorts' ≡ shorts
  pub put : lists' ≡ record lists { lists = with_first (code_of (at clause 1)) (2 * number + 1) (with_first (code_of (at clause 0)) (2 * number) lists.lists) }
  pub set : a' ≡ record a { looked = 0 }
