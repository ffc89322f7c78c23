-- What a call wrote for the texts of its files, and where a packet leaves out what is missing.
use Rattle.std.specs.Prelude.{◌≡◌, ℕ, List, map, None, Option, Vec}
use Rattle.std.specs.Global.{Global}
use Rattle.kat_actions.specs.Texts.{AreCallsOf}
use Rattle.kat_actions.specs.declared.calls.Call.{Call}
use Rattle.kat_actions.specs.declared.calls.Verb.TheVariants.{Do}
use Rattle.kat_design.specs.Sorted.{AreMatched}
use Rattle.kat_io.specs.Outside.{grown}
use Rattle.kat_share.specs.declared.packets.SharePacket.{SharePacket}
use Rattle.kat_share.specs.declared.shares.Share.{Share}
use Rattle.kat_share_step.specs.Keeping.{KeepsOperations}
use Rattle.kat_share_step.specs.Shares.{IsBeyond, SaysKnown, SaysPacket, SaysShare, first_share}
use Rattle.kat_share_step.specs.Steps.{CoversEach, IsFirstGap, stepped_share, with_share_packets}
use Rattle.kat_step.specs.Limits.{first_refusal}
use Rattle.kat_wire.specs.FileForms.{FileForm}
use Rattle.kat_wire.specs.Files.{IsFileText}

-- `node-share`: the share file of a replica of the number that did nothing, of the design that the text says
pub record WroteNew (design_text : List ℕ) (number : ℕ) (before after : Option (List ℕ)) : Type 0 where
  pub file : FileForm
  pub is_design : IsFileText design_text file
  pub text : List ℕ
  pub says : SaysShare file.design text (first_share file.design number)
  pub wrote : after ≡ grown before text

-- `node-difference`: the packet of what the share has beyond what is known
pub record WroteDifference (design_text share_text known_text : List ℕ) (before after : Option (List ℕ)) : Type 0 where
  pub file : FileForm
  pub is_design : IsFileText design_text file
  pub share : Share
  pub is_share : SaysShare file.design share_text share
  pub known : Share
  pub is_known : SaysKnown file.design share.node.number known_text known
  pub packet : SharePacket
  pub beyond : IsBeyond file.design known share packet
  pub text : List ℕ
  pub says : SaysPacket file.design text packet
  pub wrote : after ≡ grown before text

-- what the files of a step say: a design, a share, actions, and packets
pub record Inputs : Type 0 where
  pub file : FileForm
  pub share : Share
  pub actions : List Call
  pub packets : List SharePacket

pub record AreInputs (design_text share_text actions_text : List ℕ) (packet_texts : List (List ℕ)) (inputs : Inputs) : Type 0 where
  pub is_design : IsFileText design_text inputs.file
  pub is_share : SaysShare inputs.file.design share_text inputs.share
  pub are_actions : AreCallsOf Do inputs.file.design.sig actions_text inputs.actions
  pub are_packets : AreMatched (SaysPacket inputs.file.design) packet_texts inputs.packets

-- the share after the packets and then the actions
abbrev pub after_step : Inputs → Share
after_step inputs = stepped_share inputs.file.design inputs.share inputs.packets inputs.actions

-- `node-take`: the share file of that share. No packet left out what was missing, each action could be done, and a share that had
-- operations has them then too, with all that the senders of the packets had and with the actions.
pub record Took (design_text share_text actions_text : List ℕ) (packet_texts : List (List ℕ)) (before after : Option (List ℕ)) : Type 0 where
  pub inputs : Inputs
  pub are : AreInputs design_text share_text actions_text packet_texts inputs
  pub covered : CoversEach inputs.share inputs.packets
  pub goes : first_refusal inputs.file.design (with_share_packets inputs.share inputs.packets).node inputs.actions ≡ None
  pub keeps : KeepsOperations inputs.file.design inputs.share inputs.packets inputs.actions
  pub text : List ℕ
  pub says : SaysShare inputs.file.design text (after_step inputs)
  pub wrote : after ≡ grown before text

-- the packet of this number, counted from 0, is the first that tells from operations on which are missing once those before it are merged
pub record HasGap (design_text share_text actions_text : List ℕ) (packet_texts : List (List ℕ)) (packet : ℕ) : Type 0 where
  pub inputs : Inputs
  pub are : AreInputs design_text share_text actions_text packet_texts inputs
  pub gap : IsFirstGap 0 inputs.share inputs.packets packet

-- used inside only: the contents of vectors of bytes
abbrev pub contents : List (Vec ℕ Global) → List (List ℕ)
contents vectors = map (λ (vector : Vec ℕ Global). vector.items) vectors
