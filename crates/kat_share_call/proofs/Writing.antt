-- What was written for texts, and for the files that have them.
use Rattle.std.proofs.Common.{◌≡◌, ◌≤◌, ℕ, List, [], Option, None}
use Rattle.kat_io.specs.Outside.{grown}
use Rattle.kat_share.specs.declared.packets.SharePacket.{SharePacket}
use Rattle.kat_share.specs.declared.shares.Share.{Share}
use Rattle.kat_share_step.specs.Keeping.{KeepsOperations}
use Rattle.kat_share_step.specs.Shares.{IsBeyond, SaysKnown, SaysPacket, SaysShare, first_share}
use Rattle.kat_share_step.specs.Steps.{CoversEach, IsFirstGap, with_share_packets}
use Rattle.kat_step.specs.Limits.{first_refusal}
use Rattle.kat_wire.specs.FileForms.{FileForm}
use Rattle.kat_wire.specs.Files.{IsFileText}
use Rattle.kat_share_call.specs.Sharing.{IsAt, MeetsGap, StepTexts, Writes}
use Rattle.kat_share_call.specs.Written.{AreInputs, HasGap, Inputs, Took, WroteDifference, WroteNew, after_step}
use Rattle.kat_share_call.specs.declared.words.Command.TheVariants.{Begin, Difference, DifferenceBeyond, Take}

-- for texts
pub wrote_new : (design_text : List ℕ) (number : ℕ) (file : FileForm) (text : List ℕ) (before after : Option (List ℕ)) → IsFileText design_text file → SaysShare file.design text (first_share file.design number)
    → after ≡ grown before text → WroteNew design_text number before after
wrote_new design_text number file text before after is says wrote = record { file = file; is_design = is; text = text; says = says; wrote = wrote }

pub wrote_difference : (design_text share_text known_text : List ℕ) (file : FileForm) (share known : Share) (packet : SharePacket) (text : List ℕ) (before after : Option (List ℕ))
    → IsFileText design_text file → SaysShare file.design share_text share → SaysKnown file.design share.node.number known_text known → IsBeyond file.design known share packet → SaysPacket file.design text packet
    → after ≡ grown before text → WroteDifference design_text share_text known_text before after
wrote_difference design_text share_text known_text file share known packet text before after is is_share is_known beyond says wrote = record {
  file = file;
  is_design = is;
  share = share;
  is_share = is_share;
  known = known;
  is_known = is_known;
  packet = packet;
  beyond = beyond;
  text = text;
  says = says;
  wrote = wrote;
}

pub wrote_step : (design_text share_text actions_text : List ℕ) (packet_texts : List (List ℕ)) (inputs : Inputs) (text : List ℕ) (before after : Option (List ℕ))
    → AreInputs design_text share_text actions_text packet_texts inputs → CoversEach inputs.share inputs.packets
    → first_refusal inputs.file.design (with_share_packets inputs.share inputs.packets).node inputs.actions ≡ None
    → KeepsOperations inputs.file.design inputs.share inputs.packets inputs.actions → SaysShare inputs.file.design text (after_step inputs)
    → after ≡ grown before text → Took design_text share_text actions_text packet_texts before after
wrote_step design_text share_text actions_text packet_texts inputs text before after are covered goes keeps says wrote = record {
  inputs = inputs;
  are = are;
  covered = covered;
  goes = goes;
  keeps = keeps;
  text = text;
  says = says;
  wrote = wrote;
}

pub met_gap : (design_text share_text actions_text : List ℕ) (packet_texts : List (List ℕ)) (inputs : Inputs) → AreInputs design_text share_text actions_text packet_texts inputs
    → (packet : ℕ) → IsFirstGap 0 inputs.share inputs.packets packet → HasGap design_text share_text actions_text packet_texts packet
met_gap design_text share_text actions_text packet_texts inputs are packet gap = record { inputs = inputs; are = are; gap = gap }

-- for files
pub began_file : (holds : List ℕ → Option (List ℕ)) (design text : List ℕ) (number : ℕ) (before after : Option (List ℕ)) → 1 ≤ number → number ≤ 32 → IsAt holds design text → WroteNew text number before after
    → Writes Begin holds before after
began_file holds design text number before after least most is wrote =
    (design, record { number = number; least = least; most = most; design_text = text; is_design = is; wrote = wrote })

pub differed_files : (holds : List ℕ → Option (List ℕ)) (design share design_text share_text : List ℕ) (before after : Option (List ℕ)) → IsAt holds design design_text → IsAt holds share share_text
    → WroteDifference design_text share_text [] before after → Writes Difference holds before after
differed_files holds design share design_text share_text before after is is_share wrote =
    (design, share, record { design_text = design_text; is_design = is; share_text = share_text; is_share = is_share; wrote = wrote })

pub differed_beyond : (holds : List ℕ → Option (List ℕ)) (design share known design_text share_text known_text : List ℕ) (before after : Option (List ℕ)) → IsAt holds design design_text → IsAt holds share share_text
    → IsAt holds known known_text → WroteDifference design_text share_text known_text before after → Writes DifferenceBeyond holds before after
differed_beyond holds design share known design_text share_text known_text before after is is_share is_known wrote = (
  design,
  share,
  known,
  record {
    known_text = known_text;
    is_known = is_known;
    wrote = record { design_text = design_text; is_design = is; share_text = share_text; is_share = is_share; wrote = wrote };
  },
)

pub took_files : (holds : List ℕ → Option (List ℕ)) (design share actions : List ℕ) (packets : List (List ℕ)) (texts : StepTexts holds design share actions packets) (before after : Option (List ℕ))
    → Took texts.design_text texts.share_text texts.actions_text texts.packet_texts before after → Writes Take holds before after
took_files holds design share actions packets texts before after took = (design, share, actions, packets, record { texts = texts; took = took })

pub files_have_gap : (holds : List ℕ → Option (List ℕ)) (design share actions : List ℕ) (packets : List (List ℕ)) (texts : StepTexts holds design share actions packets) (packet : ℕ)
    → HasGap texts.design_text texts.share_text texts.actions_text texts.packet_texts packet → MeetsGap holds packet
files_have_gap holds design share actions packets texts packet gap = (design, share, actions, packets, record { texts = texts; gap = gap })
