-- What a share is after packets and actions, and which packet leaves out what is missing.
use Rattle.std.specs.Prelude.{◌≡◌, ◌⊎◌, ℕ, ◌+◌, List, [], ◌∷◌, Some}
use Rattle.kat_actions.specs.declared.calls.Call.{Call}
use Rattle.kat_design.specs.Designs.{DesignForm}
use Rattle.kat_lattice.specs.Tallies.{Sums, tallies_joined}
use Rattle.kat_node.specs.Packets.{with_packet}
use Rattle.kat_node.specs.declared.nodes.Node.{Node}
use Rattle.kat_share.specs.declared.packets.SharePacket.{SharePacket}
use Rattle.kat_share.specs.declared.shares.Share.{Share}
use Rattle.kat_step.specs.Limits.{first_refusal}
use Rattle.kat_step.specs.Steps.{with_actions}
use Rattle.kat_step.specs.declared.error.StepError.TheVariants as step
use Rattle.kat_share_step.specs.declared.error.ShareStepError.{ShareStepError}
use Rattle.kat_share_step.specs.declared.error.ShareStepError.TheVariants.{Gap, TooLarge, FullState, Memory}

-- a share has all operations from which on a packet tells: no mark of the base is greater than the share's
abbrev pub Covers : Share → SharePacket → Type 0
Covers share packet = tallies_joined packet.base share.marks ≡ share.marks

-- a share with a packet merged: the greater clock, the join of both states, and of each replica the greater mark
abbrev pub with_share_packet : Share → SharePacket → Share
with_share_packet share packet = record {
  node = with_packet share.node packet.told.node;
  marks = tallies_joined share.marks packet.told.marks;
}

-- all packets, in their order
abbrev pub with_share_packets : Share → List SharePacket → Share
with_share_packets share [] = share
with_share_packets share (packet ∷ packets) = with_share_packets (with_share_packet share packet) packets

-- each packet tells from what is there once those before it are merged
abbrev pub CoversEach : Share → List SharePacket → Type 0
CoversEach share [] = Unit {0}
CoversEach share (packet ∷ packets) = Covers share packet × CoversEach (with_share_packet share packet) packets

-- the first packet that doesn't, counted from a number on
abbrev pub IsFirstGap : ℕ → Share → List SharePacket → ℕ → Type 0
IsFirstGap first share [] place = ⊥
IsFirstGap first share (packet ∷ packets) place =
    ((place ≡ first) × (Covers share packet → ⊥)) ⊎ (Covers share packet × IsFirstGap (first + 1) (with_share_packet share packet) packets place)

-- a replica's marks after its actions: if there are any, its own mark is its clock then
abbrev pub marks_after : Sums → Node → List Call → Sums
marks_after marks node [] = marks
marks_after marks node (call ∷ calls) = tallies_joined marks ((node.number, node.replica.clock) ∷ [])

-- a share after actions
abbrev pub with_share_actions : DesignForm → Share → List Call → Share
with_share_actions d share actions = record {
  node = with_actions d share.node actions;
  marks = marks_after share.marks (with_actions d share.node actions) actions;
}

-- a share after packets and then actions
abbrev pub stepped_share : DesignForm → Share → List SharePacket → List Call → Share
stepped_share d share packets actions = with_share_actions d (with_share_packets share packets) actions

-- used inside only: a packet with a gap; an action that can't be done
abbrev pub IsGapOf : ℕ → Share → List SharePacket → ShareStepError → Type 0
IsGapOf first share packets (Gap place) = IsFirstGap first share packets place
IsGapOf first share packets (TooLarge line) = ⊥
IsGapOf first share packets (FullState line) = ⊥
IsGapOf first share packets Memory = Unit {0}

abbrev pub IsActionRefused : DesignForm → Share → List Call → ShareStepError → Type 0
IsActionRefused d share actions (Gap place) = ⊥
IsActionRefused d share actions (TooLarge line) = first_refusal d share.node actions ≡ Some (step.TooLarge line)
IsActionRefused d share actions (FullState line) = first_refusal d share.node actions ≡ Some (step.FullState line)
IsActionRefused d share actions Memory = Unit {0}

-- why a step isn't done: the first packet with a gap; else, after all packets, the first action that can't be done
abbrev pub IsNotStepped : DesignForm → Share → List SharePacket → List Call → ShareStepError → Type 0
IsNotStepped d share packets actions (Gap place) = IsFirstGap 0 share packets place
IsNotStepped d share packets actions (TooLarge line) =
    CoversEach share packets × (first_refusal d (with_share_packets share packets).node actions ≡ Some (step.TooLarge line))
IsNotStepped d share packets actions (FullState line) =
    CoversEach share packets × (first_refusal d (with_share_packets share packets).node actions ≡ Some (step.FullState line))
IsNotStepped d share packets actions Memory = Unit {0}
