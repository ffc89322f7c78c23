-- How the parts of a call end.
use Rattle.std.specs.Prelude.{◌≡◌, ℕ, List}
use Rattle.kat_design.specs.Designs.{DesignForm}
use Rattle.kat_share.specs.declared.packets.SharePacket.{SharePacket}
use Rattle.kat_share.specs.declared.shares.Share.{Share}
use Rattle.kat_share_step.specs.Shares.{IsBeyond, SaysPacket}
use Rattle.kat_share_step.specs.declared.error.ShareStepError.{ShareStepError}
use Rattle.kat_share_step.specs.declared.error.ShareStepError.TheVariants as step
use Rattle.kat_wire.specs.FileForms.{file_form}
use Rattle.kat_share_call.specs.Codes.{IsPlain}
use Rattle.kat_share_call.specs.Written.{Inputs}
use Rattle.kat_share_call.specs.declared.status.Status.{Status}
use Rattle.kat_share_call.specs.declared.status.Status.TheVariants.{Gap}
use Rattle.kat_share_call.specs.declared.texts.StepInputs.{StepInputs}

-- what was read of the files of a step
abbrev pub inputs_of : StepInputs → Inputs
inputs_of it = record { file = file_form it.file; share = it.share; actions = it.actions.items; packets = it.packets.items }

-- the text is a packet of what a share has beyond a known one
pub record TellsBeyond (d : DesignForm) (known share : Share) (text : List ℕ) : Type 0 where
  pub packet : SharePacket
  pub beyond : IsBeyond d known share packet
  pub says : SaysPacket d text packet

-- how a call ends if a step isn't done
abbrev pub EndsStep : ShareStepError → Status → Type 0
EndsStep (step.Gap packet) status = status ≡ Gap packet
EndsStep (step.TooLarge line) status = IsPlain status
EndsStep (step.FullState line) status = IsPlain status
EndsStep step.Memory status = IsPlain status
