-- The operations that shares have, through all steps.
use Rattle.std.specs.Prelude.{◌≡◌, List, [], ◌∷◌, ◌++◌, map, None}
use Rattle.std.specs.List.{AllByRecursion}
use Rattle.kat_actions.specs.Texts.{FitsSignature}
use Rattle.kat_actions.specs.declared.calls.Call.{Call}
use Rattle.kat_actions.specs.declared.calls.Verb.TheVariants.{Do}
use Rattle.kat_design.specs.Designs.{DesignForm}
use Rattle.kat_design.specs.Sorted.{IsWellSorted}
use Rattle.kat_difference.specs.Marks.{AreMarks}
use Rattle.kat_node.specs.Nodes.{AreSums}
use Rattle.kat_node.specs.Packets.{all_united}
use Rattle.kat_share.specs.declared.packets.SharePacket.{SharePacket}
use Rattle.kat_share.specs.declared.shares.Share.{Share}
use Rattle.kat_step.specs.Limits.{first_refusal}
use Rattle.kat_step.specs.Runs.{AreNear, IsStateFile}
use Rattle.kat_step.specs.Steps.{done_from}
use Rattle.kat_type.specs.Unions.{united}
use Rattle.kat_type.specs.declared.done.Done.{Done}
use Rattle.kat_share_step.specs.Shares.{IsBeyond, IsPacket}
use Rattle.kat_share_step.specs.Steps.{CoversEach, stepped_share, with_share_packets}

-- the share has these operations: its state is what they give, and its marks are theirs
pub record HasOperations (d : DesignForm) (share : Share) (has : List Done) : Type 0 where
  pub state : IsStateFile d (record { node = share.node; has = has })
  pub marks : AreMarks share.marks has
  pub sums : AreSums share.marks

-- where a packet comes from: a share that was known and the one that it was made of, each with its operations
pub record Origin : Type 0 where
  pub known : Share
  pub theirs : List Done
  pub whole : Share
  pub all : List Done

pub record ComesFrom (d : DesignForm) (origin : Origin) (packet : SharePacket) : Type 0 where
  pub is : IsPacket d packet
  pub known : HasOperations d origin.known origin.theirs
  pub whole : HasOperations d origin.whole origin.all
  pub beyond : IsBeyond d origin.known origin.whole packet

-- Each packet comes from such shares. When it is merged, of each replica one list of operations has a prefix by time of what the other
-- has: those that were known of its sender beside those that are here, and these beside those of its sender.
abbrev pub ComeFrom : DesignForm → List Done → List Origin → List SharePacket → Type 0
ComeFrom d mine [] [] = Unit {0}
ComeFrom d mine (origin ∷ origins) (packet ∷ packets) =
    ComesFrom d origin packet × AreNear origin.theirs mine × AreNear mine origin.all × ComeFrom d (united mine origin.all) origins packets
ComeFrom d mine _ _ = ⊥

-- the operations of all senders
abbrev pub lists_of : List Origin → List (List Done)
lists_of origins = map (λ (origin : Origin). origin.all) origins

-- what a share has after a step: its own operations, those of all senders, and then the actions, each at one past the clock before it
abbrev pub has_after : DesignForm → Share → List Done → List Origin → List SharePacket → List Call → List Done
has_after d share mine origins packets actions =
    let merged = with_share_packets share packets in
    all_united mine (lists_of origins) ++ done_from merged.node.number merged.node.replica.clock actions

-- A share that has operations has them after a step too, with those of the senders and its actions: its state is what all of these
-- give, and its marks are theirs.
abbrev pub KeepsOperations : DesignForm → Share → List SharePacket → List Call → Type 0
KeepsOperations d share packets actions =
    (mine : List Done) (origins : List Origin) → HasOperations d share mine → ComeFrom d mine origins packets
    → HasOperations d (stepped_share d share packets actions) (has_after d share mine origins packets actions)

abbrev pub StepsKeepShares : Type 0
StepsKeepShares =
    (d : DesignForm) (share : Share) (packets : List SharePacket) (actions : List Call) → IsWellSorted d → CoversEach share packets
    → AllByRecursion (FitsSignature Do d.sig) actions → first_refusal d (with_share_packets share packets).node actions ≡ None
    → KeepsOperations d share packets actions
