-- Used inside only.
-- The assumed literals, each with how far the propagation was before, and what is always so of an index.
use Rattle.std.specs.Prelude.{◌≡◌, ℕ, ◌+◌, ◌*◌, ◌<◌, ◌≤◌, ◌^◌, ℤ, List, length, take, map, Bool, true, slice_index_or}
use Rattle.kat_clause.specs.declared.known.Level.{Level}
use Rattle.kat_clause.specs.declared.propagation.Propagation.{Propagation}
use Rattle.kat_clause.specs.Tables.{IsIndex}
use Rattle.kat_clause.specs.Propagations.{Stands, Holds, IsSettledState}

abbrev pub assumed_in : List Level → List ℤ
assumed_in levels = map (λ (level : Level). level.literal) levels

-- a level says how far the propagation was with the literals before it
abbrev pub IsLevel : List (List ℤ) → List ℤ → List ℤ → Level → Type 0
IsLevel clauses assumed trail level = (level.trail ≤ length trail) × Stands clauses assumed (take level.trail trail) level.looked level.seen

pub record AreLevels (clauses : List (List ℤ)) (levels : List Level) (trail : List ℤ) : Type 0 where
  pub stand : (k : ℕ) (d : Level) → k < length levels → IsLevel clauses (take k (assumed_in levels)) trail (slice_index_or levels k d)
  pub climb : (j k : ℕ) (d : Level) → j ≤ k → k < length levels → (slice_index_or levels j d).trail ≤ (slice_index_or levels k d).trail

-- the table indexes the clauses, the set holds with all assumed literals, and each level with those before it
pub record IsConsistent (greatest : ℕ) (clauses : List (List ℤ)) (table : List (List ℕ)) (set : Propagation) (levels : List Level) (settled : Bool) : Type 0 where
  pub index : IsIndex clauses table
  pub size : length table ≡ 2 * greatest + 2
  pub marks : length set.marks.items ≡ 2 * greatest + 2
  pub limit : greatest ≤ 2 ^ 28
  pub holds : Holds clauses (assumed_in levels) set
  pub are_levels : AreLevels clauses levels set.trail.items
  pub done : settled ≡ true → IsSettledState clauses set
