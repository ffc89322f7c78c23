-- Used inside only.
-- What clauses under watch stand for: clauses, and literals that are assigned one after the other.
use Rattle.std.specs.Prelude.{◌≡◌, ◌≢◌, ℕ, ◌<◌, ◌≤◌, ℤ, pos, neg_ℤ, unsigned_abs, List, map, take, length, Option, Some, None, slice_index_or}
use Rattle.std.specs.List.{Contains}
use Rattle.kat_clause.specs.Tables.{clause_at}
use Rattle.kat_clause.specs.Propagations.{IsSettled}

-- A literal that is assigned, and the number of the clause by which it was; none if it was assumed.
pub record Step : Type 0 where
  pub literal : ℤ
  pub reason : Option ℕ

-- The greatest variable, the clauses in the order in which they came, and the literals that are assigned, in order.
pub record Watched : Type 0 where
  pub greatest : ℕ
  pub clauses : List (List ℤ)
  pub trail : List Step

abbrev pub literals : List Step → List ℤ
literals trail = map (λ (s : Step). s.literal) trail

-- the literal is a variable's number or the negative of one, of the variables from 1 to the greatest
abbrev pub IsLiteral : ℕ → ℤ → Type 0
IsLiteral greatest k = (0 < unsigned_abs k) × (unsigned_abs k ≤ greatest)

abbrev pub AreLiterals : ℕ → List ℤ → Type 0
AreLiterals greatest clause = (k : ℤ) → Contains clause k → IsLiteral greatest k

-- no literal occurs twice in the list
abbrev pub IsPlain : List ℤ → Type 0
IsPlain list = (i j : ℕ) → i < j → j < length list → slice_index_or list i (pos 0) ≢ slice_index_or list j (pos 0)

-- neither the literal nor its opposite is assigned
abbrev pub IsOpen : List ℤ → ℤ → Type 0
IsOpen trail k = (Contains trail k → ⊥) × (Contains trail (neg_ℤ k) → ⊥)

-- the clause has the literal, and its other literals are false
pub record Forces (clause trail : List ℤ) (m : ℤ) : Type 0 where
  pub has : Contains clause m
  pub false : (k : ℤ) → Contains clause k → k ≢ m → Contains trail (neg_ℤ k)

-- all literals of the clause are false
abbrev pub IsFalsified : List ℤ → List ℤ → Type 0
IsFalsified clause trail = (k : ℤ) → Contains clause k → Contains trail (neg_ℤ k)

-- the clause of this number forces the literal
abbrev pub IsReason : List (List ℤ) → List ℤ → ℤ → ℕ → Type 0
IsReason clauses trail m c = (c < length clauses) × Forces (clause_at clauses c) trail m

-- the literal was assumed, or is forced by the clause that is its reason
abbrev pub IsSupported : List (List ℤ) → List ℤ → ℤ → Option ℕ → Type 0
IsSupported clauses before m None = Unit {0}
IsSupported clauses before m (Some c) = IsReason clauses before m c

abbrev pub no_step : Step
no_step = record { literal = pos 0; reason = None }

abbrev pub step_at : List Step → ℕ → Step
step_at trail i = slice_index_or trail i no_step

-- each assigned literal was assumed, or is forced by its reason's clause, whose other literals were false before it
abbrev pub AreSupported : List (List ℤ) → List Step → Type 0
AreSupported clauses trail = (i : ℕ) → i < length trail → IsSupported clauses (take i (literals trail)) (step_at trail i).literal (step_at trail i).reason

-- the literal at this place was forced by a clause, its reason: with what was before it, it was open, and the clause's other
-- literals were false
abbrev pub IsForced : List (List ℤ) → List Step → ℕ → Type 0
IsForced clauses trail i = (c : ℕ) × ((step_at trail i).reason ≡ Some c) × IsReason clauses (take i (literals trail)) (step_at trail i).literal c × IsOpen (take i (literals trail)) (step_at trail i).literal

-- further literals are assigned, each forced by a clause as its last open literal
pub record Grows (clauses : List (List ℤ)) (old new : List Step) : Type 0 where
  pub longer : length old ≤ length new
  pub kept : take (length old) new ≡ old
  pub forced : (i : ℕ) → length old ≤ i → i < length new → IsForced clauses new i

-- no clause is falsified, or unit
abbrev pub IsQuiet : List (List ℤ) → List ℤ → Type 0
IsQuiet clauses trail = (c : ℕ) → c < length clauses → IsSettled (clause_at clauses c) (λ k. Contains trail (neg_ℤ k)) (Contains trail)

-- the clause of this number is falsified
abbrev pub IsConflict : List (List ℤ) → List ℤ → ℕ → Type 0
IsConflict clauses trail c = (c < length clauses) × IsFalsified (clause_at clauses c) trail

-- what propagation does: no clause is lost, each further literal is forced by a clause, and the answer is as it says
pub record Propagates (old new : Watched) (answer : List (List ℤ) → List ℤ → Type 0) : Type 0 where
  pub greatest : new.greatest ≡ old.greatest
  pub clauses : new.clauses ≡ old.clauses
  pub grows : Grows new.clauses old.trail new.trail
  pub answers : answer new.clauses (literals new.trail)
