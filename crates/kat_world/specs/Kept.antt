-- Used inside only.
-- What the code keeps of replicas and packets, and how it changes.
use Rattle.std.specs.Prelude.{◌≡◌, ◌^◌, ℕ, ◌-◌, ◌<◌, true, max, All, List, [], ◌∷◌, map, length, replicate, slice_set}
use Rattle.std.specs.List.{list_all, slice_index_or}
use Rattle.kat_design.specs.Answers.{answer_of}
use Rattle.kat_design.specs.Denotations.{denotation_of, design_meaning}
use Rattle.kat_design.specs.Designs.{DesignForm}
use Rattle.kat_design.specs.Fitting.{FitsSignature}
use Rattle.kat_design.specs.Meanings.{are_kin}
use Rattle.kat_design.specs.Parts.{PartsKin, parts_joined}
use Rattle.kat_design.specs.Small.{IsSmallPart, is_roomy_part}
use Rattle.kat_design.specs.declared.states.Part.{Part}
use Rattle.kat_expr.specs.Limits.{IsAtMost}
use Rattle.kat_num.specs.declared.values.Value.{Value}
use Rattle.kat_replica.specs.Texts.{state_text}
use Rattle.kat_replica.specs.declared.replicas.Packet.{Packet}
use Rattle.kat_replica.specs.declared.replicas.Replica.{Replica}
use Rattle.kat_script.specs.World.{Holder, World, fresh, put}
use Rattle.kat_script.specs.declared.script.Line.{Line}
use Rattle.kat_script.specs.declared.script.Line.TheVariants.{Do, Ship, Deliver, Ask, Show}
use Rattle.kat_type.specs.declared.done.Done.{Done}
use Rattle.kat_world.specs.Lines.{show_text}
use Rattle.kat_world.specs.Texts.{ask_text}

-- all replicas, and the packets by the number of their word
pub record Keeps : Type 0 where
  pub replicas : List Replica
  pub packets : List Packet

abbrev pub replica_with : ℕ → List Part → Replica
replica_with clock parts = record { clock = clock; state = record { parts = parts } }

abbrev pub packet_with : ℕ → List Part → Packet
packet_with clock parts = record { clock = clock; state = record { parts = parts } }

-- what is kept of a replica or a packet of the world: its clock, and the state that the operations absorbed give
abbrev pub kept_replica : DesignForm → Holder → Replica
kept_replica d holder = replica_with holder.clock (denotation_of d holder.absorbed)

abbrev pub kept_packet : DesignForm → Holder → Packet
kept_packet d holder = packet_with holder.clock (denotation_of d holder.absorbed)

abbrev pub kept_world : DesignForm → World → Keeps
kept_world d world = record { replicas = map (kept_replica d) world.replicas; packets = map (kept_packet d) world.packets }

-- what is kept at a place; what is past the end is never asked for
abbrev pub kept_at : List Replica → ℕ → Replica
kept_at replicas i = slice_index_or replicas i (replica_with 0 [])

abbrev pub shipped_at : List Packet → ℕ → Packet
shipped_at packets i = slice_index_or packets i (packet_with 0 [])

-- so many replicas that did nothing
abbrev pub first_keeps : DesignForm → ℕ → Keeps
first_keeps d replicas = record { replicas = replicate replicas (kept_replica d fresh); packets = [] }

-- an operation is done, and a packet shipped
abbrev pub did : DesignForm → Replica → Done → Replica
did d replica done = replica_with done.time ((design_meaning d).added replica.state.parts done)

abbrev pub shipped : Replica → Packet
shipped replica = packet_with replica.clock replica.state.parts

-- a packet is delivered
abbrev pub took : Replica → Packet → Replica
took replica packet = replica_with (max replica.clock packet.clock) (parts_joined replica.state.parts packet.state.parts)

-- what is kept after a line
abbrev pub kept_after : DesignForm → Keeps → Line → Keeps
kept_after d k (Do done) = record k { replicas = slice_set k.replicas (done.replica - 1) (did d (kept_at k.replicas (done.replica - 1)) done) }
kept_after d k (Ship r p) = record k { packets = put k.packets p (shipped (kept_at k.replicas (r - 1))) }
kept_after d k (Deliver p r) =
    record k { replicas = slice_set k.replicas (r - 1) (took (kept_at k.replicas (r - 1)) (shipped_at k.packets p)) }
kept_after d k (Ask r query args) = k
kept_after d k (Show r) = k

-- what a line prints
abbrev pub kept_text : DesignForm → Keeps → Line → List ℕ
kept_text d k (Ask r query args) = ask_text d.sig r query args (answer_of d (kept_at k.replicas (r - 1)).state.parts query args)
kept_text d k (Show r) = show_text r (kept_at k.replicas (r - 1)).clock (state_text (kept_at k.replicas (r - 1)).state.parts)
kept_text d k (Do done) = []
kept_text d k (Ship r p) = []
kept_text d k (Deliver p r) = []

-- what a line is answered
abbrev pub kept_answers : DesignForm → Keeps → Line → List Value
kept_answers d k (Ask r query args) = answer_of d (kept_at k.replicas (r - 1)).state.parts query args ∷ []
kept_answers d k (Show r) = []
kept_answers d k (Do done) = []
kept_answers d k (Ship r p) = []
kept_answers d k (Deliver p r) = []

-- An operation can be done here: the state is one of the design with room in its sums, the operation fits, and it is later
-- than the clock.
pub record CanDo (d : DesignForm) (replica : Replica) (done : Done) : Type 0 where
  pub kin : are_kin PartsKin replica.state.parts (denotation_of d [])
  pub room : list_all is_roomy_part replica.state.parts ≡ true
  pub fits : FitsSignature d.sig done
  pub later : replica.clock < done.time

-- a query can be asked here: no number is too great
pub record CanAsk (replica : Replica) (args : List Value) : Type 0 where
  pub state : All IsSmallPart replica.state.parts
  pub args_small : All (IsAtMost (2 ^ 100)) args

-- the line can be run: its replica and packet are there, and states, operations and arguments are such as the calls ask for
abbrev pub IsReady : DesignForm → Keeps → Line → Type 0
IsReady d k (Do done) = (done.replica - 1 < length k.replicas) × CanDo d (kept_at k.replicas (done.replica - 1)) done
IsReady d k (Ship r p) = r - 1 < length k.replicas
IsReady d k (Deliver p r) =
    (r - 1 < length k.replicas) × (p < length k.packets)
    × are_kin PartsKin (kept_at k.replicas (r - 1)).state.parts (shipped_at k.packets p).state.parts
IsReady d k (Ask r query args) = (r - 1 < length k.replicas) × CanAsk (kept_at k.replicas (r - 1)) args
IsReady d k (Show r) = r - 1 < length k.replicas
