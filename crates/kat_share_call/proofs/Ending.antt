-- How the parts of a call end.
use Rattle.std.proofs.Common.{◌≡◌, ℕ, List, Option, sym, subst}
use Rattle.kat_share.specs.declared.packets.SharePacket.{SharePacket}
use Rattle.kat_share_call.specs.Codes.{Ends, IsPlain, LeavesOutput, NoGap}
use Rattle.kat_share_call.specs.Inside.{EndsStep}
use Rattle.kat_share_call.specs.declared.status.Status.{Status}
use Rattle.kat_share_call.specs.declared.status.Status.TheVariants.{Done, Usage, ReadFault, Refused, Gap, Memory, WriteFault}
use Rattle.kat_share_step.specs.declared.error.ShareStepError.{ShareStepError}
use Rattle.kat_share_step.specs.declared.error.ShareStepError.TheVariants as step
use Rattle.kat_share_step.specs.Steps.{IsFirstGap, IsNotStepped}
use Rattle.kat_share.specs.declared.shares.Share.{Share}
use Rattle.kat_actions.specs.declared.calls.Call.{Call}
use Rattle.kat_design.specs.Designs.{DesignForm}

-- a file couldn't be read or is refused, or memory ran out
pub plain_ends : (done : Type 0) (gap : ℕ → Type 0) (before after : Option (List ℕ)) (status : Status) → IsPlain status → after ≡ before → Ends done gap before after status
plain_ends done gap before after Done is same = absurd is
plain_ends done gap before after Usage is same = same
plain_ends done gap before after (ReadFault file) is same = same
plain_ends done gap before after (Refused file number at) is same = same
plain_ends done gap before after (Gap packet) is same = absurd is
plain_ends done gap before after Memory is same = same
plain_ends done gap before after WriteFault is same = absurd is

-- what holds then says more
pub ends_by : (done done' : Type 0) (gap gap' : ℕ → Type 0) (before after : Option (List ℕ)) (status : Status) → (done → done') → ((packet : ℕ) → gap packet → gap' packet)
    → Ends done gap before after status → Ends done' gap' before after status
ends_by done done' gap gap' before after Done f g h = f h
ends_by done done' gap gap' before after Usage f g h = h
ends_by done done' gap gap' before after (ReadFault file) f g h = h
ends_by done done' gap gap' before after (Refused file number at) f g h = h
ends_by done done' gap gap' before after (Gap packet) f g h = (g packet h.0, h.1)
ends_by done done' gap gap' before after Memory f g h = h
ends_by done done' gap gap' before after WriteFault f g h = tt

-- a command without packets
pub ends_so : (done done' : Type 0) (gap : ℕ → Type 0) (before after : Option (List ℕ)) (status : Status) → (done → done') → Ends done NoGap before after status → Ends done' gap before after status
ends_so done done' gap before after status f h = ends_by done done' NoGap gap before after status f (λ packet none. absurd none) h

-- a step that isn't done
pub step_ends : (d : DesignForm) (share : Share) (packets : List SharePacket) (actions : List Call) (error : ShareStepError) (status : Status) (done : Type 0) (gap : ℕ → Type 0) (before after : Option (List ℕ))
    → IsNotStepped d share packets actions error → EndsStep error status → ((packet : ℕ) → IsFirstGap 0 share packets packet → gap packet) → after ≡ before → Ends done gap before after status
step_ends d share packets actions (step.Gap packet) status done gap before after is ends found same =
    subst (λ (s : Status). Ends done gap before after s) (sym ends) (found packet is, same)
step_ends d share packets actions (step.TooLarge line) status done gap before after is ends found same = plain_ends done gap before after status ends same
step_ends d share packets actions (step.FullState line) status done gap before after is ends found same = plain_ends done gap before after status ends same
step_ends d share packets actions step.Memory status done gap before after is ends found same = plain_ends done gap before after status ends same

-- what a call promises
pub done_of : (done : Type 0) (gap : ℕ → Type 0) (before after : Option (List ℕ)) (status : Status) → Ends done gap before after status → status ≡ Done → done
done_of done gap before after status h is = (let there : Ends done gap before after Done = subst (λ (s : Status). Ends done gap before after s) is h in there)

pub gap_of : (done : Type 0) (gap : ℕ → Type 0) (before after : Option (List ℕ)) (status : Status) → Ends done gap before after status → (packet : ℕ) → status ≡ Gap packet → gap packet
gap_of done gap before after status h packet is = (let there : Ends done gap before after (Gap packet) = subst (λ (s : Status). Ends done gap before after s) is h in there.0)

pub output_left : (done : Type 0) (gap : ℕ → Type 0) (before after : Option (List ℕ)) (status : Status) → Ends done gap before after status → LeavesOutput status → after ≡ before
output_left done gap before after Done h leaves = absurd leaves
output_left done gap before after Usage h leaves = h
output_left done gap before after (ReadFault file) h leaves = h
output_left done gap before after (Refused file number at) h leaves = h
output_left done gap before after (Gap packet) h leaves = h.1
output_left done gap before after Memory h leaves = h
output_left done gap before after WriteFault h leaves = absurd leaves
