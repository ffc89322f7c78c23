-- Why a step isn't done.
use Rattle.std.proofs.Common.{◌≡◌, List, Some, subst}
use Rattle.kat_actions.specs.declared.calls.Call.{Call}
use Rattle.kat_design.specs.Designs.{DesignForm}
use Rattle.kat_share.specs.declared.packets.SharePacket.{SharePacket}
use Rattle.kat_share.specs.declared.shares.Share.{Share}
use Rattle.kat_share_step.specs.Steps.{CoversEach, IsActionRefused, IsGapOf, IsNotStepped, with_share_packets}
use Rattle.kat_share_step.specs.declared.error.ShareStepError.{ShareStepError}
use Rattle.kat_share_step.specs.declared.error.ShareStepError.TheVariants.{Gap, TooLarge, FullState, Memory}
use Rattle.kat_step.specs.Limits.{first_refusal}
use Rattle.kat_step.specs.declared.error.StepError.TheVariants as step

-- a packet has a gap
pub gap_not_stepped : (d : DesignForm) (share : Share) (packets : List SharePacket) (actions : List Call) (error : ShareStepError) → IsGapOf 0 share packets error → IsNotStepped d share packets actions error
gap_not_stepped d share packets actions (Gap place) is = is
gap_not_stepped d share packets actions (TooLarge line) is = absurd is
gap_not_stepped d share packets actions (FullState line) is = absurd is
gap_not_stepped d share packets actions Memory is = tt

-- an action can't be done
pub action_not_stepped : (d : DesignForm) (share merged : Share) (packets : List SharePacket) (actions : List Call) (error : ShareStepError) → merged ≡ with_share_packets share packets → CoversEach share packets → IsActionRefused d merged actions error
    → IsNotStepped d share packets actions error
action_not_stepped d share merged packets actions (Gap place) same covers is = absurd is
action_not_stepped d share merged packets actions (TooLarge line) same covers is =
    (covers, subst (λ (m : Share). first_refusal d m.node actions ≡ Some (step.TooLarge line)) same is)
action_not_stepped d share merged packets actions (FullState line) same covers is =
    (covers, subst (λ (m : Share). first_refusal d m.node actions ≡ Some (step.FullState line)) same is)
action_not_stepped d share merged packets actions Memory same covers is = tt
