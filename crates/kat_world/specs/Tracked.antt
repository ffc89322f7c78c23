-- Used inside only.
-- Of each replica and packet, the latest time of each replica's operations that it absorbed.
use Rattle.std.specs.Prelude.{◌≡◌, ◌^◌, All, ℕ, ◌-◌, ◌≤◌, ◌<◌, ◌↔◌, Bool, max, nat_le, List, [], ◌∷◌, length, filter, replicate, slice_set}
use Rattle.std.specs.List.{slice_index_or}
use Rattle.std.specs.List.Sorted.{IsPermutation, IsSorted}
use Rattle.kat_expr.specs.Limits.{IsAtMost}
use Rattle.kat_script.specs.Facts.{done_in}
use Rattle.kat_script.specs.World.{Holder, World, first_world, fresh, put, world_after}
use Rattle.kat_script.specs.declared.script.Line.{Line}
use Rattle.kat_script.specs.declared.script.Line.TheVariants.{Do, Ship, Deliver, Ask, Show}
use Rattle.kat_seq.specs.States.{answer_of, started, stepped_by}
use Rattle.kat_type.specs.Arrangements.{canonical_cmp}
use Rattle.kat_type.specs.Lists.{Has}
use Rattle.kat_type.specs.Types.{TypeForm}
use Rattle.kat_type.specs.declared.done.Done.{Done}
use Rattle.kat_type.specs.declared.signatures.Signature.{Signature}
use Rattle.kat_world.specs.Texts.{ask_text}

-- the latest times of all replicas and packets
pub record Times : Type 0 where
  pub replicas : List (List ℕ)
  pub packets : List (List ℕ)

-- nothing absorbed yet
abbrev pub first_times : ℕ → Times
first_times replicas = record { replicas = replicate replicas (replicate replicas 0); packets = [] }

abbrev pub times_at : List (List ℕ) → ℕ → List ℕ
times_at times i = slice_index_or times i []

-- the latest time of a replica's operations, or 0
abbrev pub latest : List ℕ → ℕ → ℕ
latest times r = slice_index_or times (r - 1) 0

-- the greater time of each replica
abbrev pub later : List ℕ → List ℕ → List ℕ
later [] others = []
later (time ∷ times) [] = time ∷ times
later (time ∷ times) (other ∷ others) = max time other ∷ later times others

-- the times after a line
abbrev pub followed : Times → Line → Times
followed t (Do done) = record t { replicas = slice_set t.replicas (done.replica - 1) (slice_set (times_at t.replicas (done.replica - 1)) (done.replica - 1) done.time) }
followed t (Ship r p) = record t { packets = put t.packets p (times_at t.replicas (r - 1)) }
followed t (Deliver p r) = record t { replicas = slice_set t.replicas (r - 1) (later (times_at t.replicas (r - 1)) (times_at t.packets p)) }
followed t (Ask r query args) = t
followed t (Show r) = t

-- an operation isn't later than the latest time of its replica
abbrev pub is_known : List ℕ → Done → Bool
is_known times one = nat_le one.time (latest times one.replica)

-- of all operations in order, those that are known
abbrev pub known_of : List ℕ → List Done → List Done
known_of times order = filter (is_known times) order

-- what a line prints
abbrev pub printed : TypeForm → Signature → List Done → Times → Line → List ℕ
printed ty sig order t (Ask r query args) =
    ask_text sig r query args (answer_of ty (stepped_by ty (started ty) (known_of (times_at t.replicas (r - 1)) order)) query args)
printed ty sig order t (Do done) = []
printed ty sig order t (Ship r p) = []
printed ty sig order t (Deliver p r) = []
printed ty sig order t (Show r) = []

-- all operations of lines, sorted in the canonical order
pub record IsOrder (ty : TypeForm) (lines : List Line) (order : List Done) : Type 0 where
  pub moved : IsPermutation (done_in lines) order
  pub sorted : IsSorted (canonical_cmp ty) order

-- the world before a line
abbrev pub world_before : ℕ → List Line → World
world_before replicas lines = world_after (first_world replicas) lines

-- of what was done, a holder absorbed exactly what isn't later than these times
abbrev pub Knows : List Done → List ℕ → Holder → Type 0
Knows past times holder = (one : Done) → Has past one → Has holder.absorbed one ↔ (one.time ≤ latest times one.replica)

-- no time is later than the clock of its replica
abbrev pub AreWithin : World → List ℕ → Type 0
AreWithin world times = (i : ℕ) → slice_index_or times i 0 ≤ (slice_index_or world.replicas i fresh).clock

-- the times tell what each replica and packet of the world absorbed
pub record Tracks (past : List Done) (world : World) (t : Times) : Type 0 where
  pub replicas : (i : ℕ) → Knows past (times_at t.replicas i) (slice_index_or world.replicas i fresh)
  pub packets : (i : ℕ) → Knows past (times_at t.packets i) (slice_index_or world.packets i fresh)
  pub replicas_within : (i : ℕ) → AreWithin world (times_at t.replicas i)
  pub packets_within : (i : ℕ) → AreWithin world (times_at t.packets i)
  pub some_replicas : length t.replicas ≡ length world.replicas
  pub some_packets : length t.packets ≡ length world.packets
  pub long_replicas : (i : ℕ) → i < length t.replicas → length (times_at t.replicas i) ≡ length world.replicas
  pub long_packets : (i : ℕ) → i < length t.packets → length (times_at t.packets i) ≡ length world.replicas

-- the arguments of an ask are within the limit of values
abbrev pub AsksLittle : Line → Type 0
AsksLittle (Ask r query args) = All (IsAtMost (2 ^ 100)) args
AsksLittle (Do done) = Unit {0}
AsksLittle (Ship r p) = Unit {0}
AsksLittle (Deliver p r) = Unit {0}
AsksLittle (Show r) = Unit {0}
