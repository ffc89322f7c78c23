-- The world of a script: what each replica and each packet holds before each line. Clocks are logical
-- clocks in the manner of Lamport (1978).
use Rattle.std.specs.Prelude.{ℕ, ◌-◌, max, nat_lt, List, [], ◌∷◌, ◌++◌, length, replicate, if◌then◌else◌, slice_set}
use Rattle.std.specs.List.{slice_index_or}
use Rattle.kat_type.specs.Unions.{united}
use Rattle.kat_type.specs.declared.done.Done.{Done}
use Rattle.kat_script.specs.declared.script.Line.{Line}
use Rattle.kat_script.specs.declared.script.Line.TheVariants.{Do, Ship, Deliver, Ask, Show}

-- a replica or a packet: its clock, and the operations that it absorbed
pub record Holder : Type 0 where
  pub clock : ℕ
  pub absorbed : List Done

-- all replicas, and the packets by the number of their word
pub record World : Type 0 where
  pub replicas : List Holder
  pub packets : List Holder

-- clock 0, and nothing absorbed
abbrev pub fresh : Holder
fresh = record { clock = 0; absorbed = [] }

-- the world with this many fresh replicas
abbrev pub opened : World → ℕ → World
opened world replicas = record world { replicas = replicate replicas fresh }

-- this many fresh replicas, and no packet
abbrev pub first_world : ℕ → World
first_world replicas = opened (record { replicas = []; packets = [] }) replicas

-- replicas are numbered from 1
abbrev pub replica_at : World → ℕ → Holder
replica_at world r = slice_index_or world.replicas (r - 1) fresh

-- the packet with a number, counted from 0
abbrev pub packet_at : World → ℕ → Holder
packet_at world p = slice_index_or world.packets p fresh

-- the world with this holder in the place of a replica
abbrev pub with_replica : World → ℕ → Holder → World
with_replica world r holder = record world { replicas = slice_set world.replicas (r - 1) holder }

-- a packet in place of what its word had, or after the others if the word is new
abbrev pub put : {X : Type 0} → List X → ℕ → X → List X
put xs i x = if nat_lt i (length xs) then slice_set xs i x else xs ++ x ∷ []

-- the operation is absorbed, and the clock is its time
abbrev pub after_doing : Holder → Done → Holder
after_doing holder done = record { clock = done.time; absorbed = holder.absorbed ++ done ∷ [] }

-- the greater clock, and what both absorbed
abbrev pub merged : Holder → Holder → Holder
merged mine theirs = record { clock = max mine.clock theirs.clock; absorbed = united mine.absorbed theirs.absorbed }

-- the world after a line; a line changes no holder but the one that it names
abbrev pub after : World → Line → World
after world (Do done) = with_replica world done.replica (after_doing (replica_at world done.replica) done)
after world (Ship r p) = record world { packets = put world.packets p (replica_at world r) }
after world (Deliver p r) = with_replica world r (merged (replica_at world r) (packet_at world p))
after world (Ask r query args) = world
after world (Show r) = world

-- the world before the lines that come after these
abbrev pub world_after : World → List Line → World
world_after world [] = world
world_after world (line ∷ lines) = world_after (after world line) lines
