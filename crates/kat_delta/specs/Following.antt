-- Used inside only.
-- What a run keeps of the world of a script with deltas.
use Rattle.std.specs.Prelude.{◌≡◌, ℕ, ◌+◌, ◌≤◌, max, List, length, Option, None, Some, slice_get, slice_set}
use Rattle.std.specs.List.{slice_index_or}
use Rattle.kat_design.specs.Designs.{DesignForm}
use Rattle.kat_script.specs.Facts.{HoldsFronts}
use Rattle.kat_script.specs.World.{Holder, fresh}
use Rattle.kat_type.specs.Lists.{Has}
use Rattle.kat_type.specs.declared.done.Done.{Done}
use Rattle.kat_design.specs.Fitting.{FitsSignature}
use Rattle.kat_design.specs.Meanings.{are_kin}
use Rattle.kat_design.specs.Parts.{PartsKin}
use Rattle.kat_design.specs.Sorted.{IsWellSorted}
use Rattle.kat_type.specs.Unions.{united}
use Rattle.kat_delta.specs.declared.script.DeltaLine.{DeltaLine}
use Rattle.kat_delta.specs.Standing.{CarriesDelta, CarriesWhole, MayTake, MayTakeWhole, StandsFor}
use Rattle.kat_delta.specs.Worlds.{DeltaWorld, IsJudgedDelta, Made, done_by}
use Rattle.kat_delta.specs.declared.replicas.DeltaReplica.{DeltaReplica}
use Rattle.kat_delta.specs.declared.running.Running.{Running}
use Rattle.kat_delta.specs.declared.running.Sent.{Sent}
use Rattle.kat_delta.specs.declared.running.Sent.TheVariants.{Whole, Own}

-- the replica stands for what this holder of a world with this many replicas absorbed, and for those of it that it did itself
pub record Follows (d : DesignForm) (replicas : ℕ) (replica : DeltaReplica) (number : ℕ) (holder : Holder) : Type 0 where
  pub numbered : replica.number ≡ number
  pub clock : replica.base.clock ≡ holder.clock
  pub width : length replica.counts.items ≡ replicas
  pub stands : StandsFor d replica (done_by number holder.absorbed) holder.absorbed

-- the packet carries what this holder absorbed, in the way in which it was made
abbrev pub CarriesAs : DesignForm → ℕ → Sent → Holder → Option Made → Type 0
CarriesAs d replicas (Whole packet counts) holder made =
    (made ≡ None) × (packet.clock ≡ holder.clock) × (length counts.items ≡ replicas) × CarriesWhole d packet counts.items holder.absorbed
CarriesAs d replicas (Own packet) holder made =
    (made ≡ Some (record { origin = packet.origin; from = packet.from })) × (packet.clock ≡ holder.clock) × (1 ≤ packet.origin) × (packet.origin ≤ replicas) × CarriesDelta d packet holder.absorbed

-- each replica and each packet is that of the world
pub record RunsAs (d : DesignForm) (running : Running) (w : DeltaWorld) : Type 0 where
  pub some_replicas : length running.replicas.items ≡ length w.world.replicas
  pub some_packets : length running.packets.items ≡ length w.world.packets
  pub some_made : length w.made ≡ length w.world.packets
  pub replicas : (i : ℕ) (replica : DeltaReplica) → slice_get running.replicas.items i ≡ Some replica
      → Follows d (length w.world.replicas) replica (i + 1) (slice_index_or w.world.replicas i fresh)
  pub packets : (p : ℕ) (sent : Sent) → slice_get running.packets.items p ≡ Some sent
      → CarriesAs d (length w.world.replicas) sent (slice_index_or w.world.packets p fresh) (slice_index_or w.made p None)

-- what is known before a line is run: the run is that of a world of judged lines, after few operations that fit
pub record Knows (d : DesignForm) (running : Running) (w : DeltaWorld) (past : List Done) (line : DeltaLine) : Type 0 where
  pub runs : RunsAs d running w
  pub facts : HoldsFronts past w.world
  pub fit : (one : Done) → Has past one → FitsSignature d.sig one
  pub few : length past ≤ 100000
  pub few_replicas : length w.world.replicas ≤ 32
  pub judged : IsJudgedDelta d.sig w line

-- there is such a world
pub record IsReady (d : DesignForm) (running : Running) (line : DeltaLine) : Type 0 where
  pub w : DeltaWorld
  pub past : List Done
  pub known : Knows d running w past line

-- what is shipped whole
abbrev pub IsWholeOf : DeltaReplica → Sent → Type 0
IsWholeOf replica (Whole packet counts) = (packet.clock ≡ replica.base.clock) × (packet.state.parts ≡ replica.base.state.parts) × (counts.items ≡ replica.counts.items)
IsWholeOf replica (Own packet) = ⊥

-- a replica can take what was sent
abbrev pub CanTake : DeltaReplica → Sent → Type 0
CanTake replica (Whole packet counts) = are_kin PartsKin replica.base.state.parts packet.state.parts × (length replica.counts.items ≡ length counts.items)
CanTake replica (Own packet) = are_kin PartsKin replica.base.state.parts packet.state.parts × (1 ≤ packet.origin) × (packet.origin ≤ length replica.counts.items)

-- what it stands for when it has taken it
abbrev pub StandsAfter : DeltaReplica → DeltaReplica → Sent → Type 0
StandsAfter old new (Whole packet counts) = (new.base.clock ≡ max old.base.clock packet.clock)
    × ((d : DesignForm) (own all ones : List Done) → IsWellSorted d → StandsFor d old own all → CarriesWhole d packet counts.items ones → MayTakeWhole old own all ones → StandsFor d new own (united all ones))
StandsAfter old new (Own packet) = (new.base.clock ≡ max old.base.clock packet.clock)
    × ((d : DesignForm) (own all ones : List Done) → IsWellSorted d → StandsFor d old own all → CarriesDelta d packet ones → MayTake old own all packet ones → StandsFor d new own (united all ones))

-- one replica has taken it
pub record TookAt (olds news : List DeltaReplica) (place : ℕ) (sent : Sent) : Type 0 where
  pub old : DeltaReplica
  pub new : DeltaReplica
  pub there : slice_get olds place ≡ Some old
  pub changed : news ≡ slice_set olds place new
  pub number : new.number ≡ old.number
  pub width : length new.counts.items ≡ length old.counts.items
  pub stands : StandsAfter old new sent
