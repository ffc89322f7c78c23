-- What a replica that ships deltas stands for, and what its packets carry.
use Rattle.std.specs.Prelude.{◌≡◌, ◌↔◌, ◌⊎◌, ℕ, ◌-◌, ◌≤◌, ◌<◌, List, [], ◌∷◌, length, take}
use Rattle.std.specs.List.{slice_index_or}
use Rattle.kat_type.specs.Lists.{Has, IsOnce}
use Rattle.kat_type.specs.declared.done.Done.{Done}
use Rattle.kat_design.specs.Denotations.{denotation_of}
use Rattle.kat_design.specs.Designs.{DesignForm}
use Rattle.kat_design.specs.Tallied.{sum_done}
use Rattle.kat_type.specs.Unions.{AreAmong, AreNested}
use Rattle.kat_replica.specs.declared.replicas.Packet.{Packet}
use Rattle.kat_delta.specs.Deltas.{delta_of}
use Rattle.kat_delta.specs.declared.replicas.DeltaReplica.{DeltaReplica}
use Rattle.kat_delta.specs.declared.replicas.DeltaPacket.{DeltaPacket}

-- how many of these operations a replica did: each counts 1
abbrev pub count_of : ℕ → List Done → ℕ
count_of replica ones = sum_done (λ one. 1) replica ones

-- the count of a replica, numbered from 1
abbrev pub count_at : List ℕ → ℕ → ℕ
count_at counts replica = slice_index_or counts (replica - 1) 0

-- the counts are those of these operations
abbrev pub AreCounts : List ℕ → List Done → Type 0
AreCounts counts ones = (replica : ℕ) → 1 ≤ replica → replica ≤ length counts → count_at counts replica ≡ count_of replica ones

-- each operation is earlier than all after it
abbrev pub IsByTime : List Done → Type 0
IsByTime [] = Unit {0}
IsByTime (one ∷ ones) = ((later : Done) → Has ones later → one.time < later.time) × IsByTime ones

-- no operation is later
abbrev pub AreWithin : ℕ → List Done → Type 0
AreWithin clock ones = (one : Done) → Has ones one → one.time ≤ clock

-- these are the operations of the replica among all, by time
pub record AreOwn (replica : ℕ) (own all : List Done) : Type 0 where
  pub mine : (one : Done) → Has own one ↔ (Has all one × (one.replica ≡ replica))
  pub by_time : IsByTime own

-- The replica stands for its own operations, and for all that it absorbed: its state is what all of them give, none is
-- later than its clock, its counts are those of all, and the log has its own operations.
pub record StandsFor (d : DesignForm) (replica : DeltaReplica) (own all : List Done) : Type 0 where
  pub state : replica.base.state.parts ≡ denotation_of d all
  pub once : IsOnce all
  pub within : AreWithin replica.base.clock all
  pub owned : AreOwn replica.number own all
  pub counts : AreCounts replica.counts.items all
  pub log : replica.log.items ≡ own

-- nothing changed
pub record IsAsBefore (old new : DeltaReplica) : Type 0 where
  pub base : new.base ≡ old.base
  pub number : new.number ≡ old.number
  pub counts : new.counts.items ≡ old.counts.items
  pub log : new.log.items ≡ old.log.items

-- The packet carries the delta of these operations of its origin from the first so many on.
pub record CarriesDelta (d : DesignForm) (packet : DeltaPacket) (ones : List Done) : Type 0 where
  pub origin : (one : Done) → Has ones one → one.replica ≡ packet.origin
  pub by_time : IsByTime ones
  pub counted : packet.to ≡ length ones
  pub within : AreWithin packet.clock ones
  pub state : packet.state.parts ≡ delta_of d ones packet.from

-- A replica that stands for these may take that packet in: it has the operations before the delta, of the origin it has
-- a part of the packet's operations or all of them and maybe more, and of itself the packet has nothing that it lacks.
pub record MayTake (replica : DeltaReplica) (own all : List Done) (packet : DeltaPacket) (ones : List Done) : Type 0 where
  pub early : (one : Done) → Has (take packet.from ones) one → Has all one
  pub nested : AreAmong packet.origin all ones ⊎ AreAmong packet.origin ones all
  pub mine : packet.origin ≡ replica.number → (one : Done) → Has ones one → Has own one

-- The packet, with these counts, carries the state of these operations.
pub record CarriesWhole (d : DesignForm) (packet : Packet) (counts : List ℕ) (ones : List Done) : Type 0 where
  pub once : IsOnce ones
  pub within : AreWithin packet.clock ones
  pub state : packet.state.parts ≡ denotation_of d ones
  pub counts_are : AreCounts counts ones

-- A replica that stands for these may take a state of those operations in.
pub record MayTakeWhole (replica : DeltaReplica) (own all ones : List Done) : Type 0 where
  pub nested : AreNested all ones
  pub mine : (one : Done) → Has ones one → one.replica ≡ replica.number → Has own one
