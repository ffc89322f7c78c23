-- Used inside only.
-- What a replica is that has taken a delta in, and deltas of one replica that come one after another.
use Rattle.std.specs.Prelude.{◌≡◌, ◌↔◌, ℕ, ◌-◌, ◌≤◌, max, List, [], ◌∷◌, slice_set, take}
use Rattle.kat_type.specs.Lists.{Has}
use Rattle.kat_type.specs.declared.done.Done.{Done}
use Rattle.kat_design.specs.Designs.{DesignForm}
use Rattle.kat_design.specs.Parts.{parts_joined}
use Rattle.kat_design.specs.declared.states.Part.{Part}
use Rattle.kat_delta.specs.Deltas.{delta_of}
use Rattle.kat_delta.specs.Standing.{count_at}
use Rattle.kat_delta.specs.declared.replicas.DeltaPacket.{DeltaPacket}
use Rattle.kat_delta.specs.declared.replicas.DeltaReplica.{DeltaReplica}

-- the join of both states, the greater clock, and of the packet's origin the greater count; all else is as it was
pub record HasTaken (old : DeltaReplica) (packet : DeltaPacket) (new : DeltaReplica) : Type 0 where
  pub state : new.base.state.parts ≡ parts_joined old.base.state.parts packet.state.parts
  pub clock : new.base.clock ≡ max old.base.clock packet.clock
  pub counts : new.counts.items ≡ slice_set old.counts.items (packet.origin - 1) (max (count_at old.counts.items packet.origin) packet.to)
  pub number : new.number ≡ old.number
  pub log : new.log.items ≡ old.log.items

-- a delta of some operations by its counts: those after the first so many, up to this many
pub record Span : Type 0 where
  pub from : ℕ
  pub to : ℕ

-- if the first so many operations are there, the deltas come without a gap, and then the first so many are there
abbrev pub ComesTo : ℕ → List Span → ℕ → Type 0
ComesTo have [] last = have ≡ last
ComesTo have (span ∷ spans) last = (span.from ≤ have) × ComesTo (max have span.to) spans last

-- a state when the deltas of these operations have come
abbrev pub state_with : DesignForm → List Done → List Part → List Span → List Part
state_with d ones state [] = state
state_with d ones state (span ∷ spans) = state_with d ones (parts_joined state (delta_of d (take span.to ones) span.from)) spans

-- of this origin, the list has the first so many of these operations, and no other
abbrev pub HasFirst : ℕ → List Done → List Done → ℕ → Type 0
HasFirst origin all ones have = (one : Done) → one.replica ≡ origin → Has all one ↔ Has (take have ones) one
