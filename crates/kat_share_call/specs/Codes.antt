-- The statuses of the process, and what the output is then.
use Rattle.std.specs.Prelude.{◌≡◌, ℕ, List, Option}
use Rattle.kat_share_call.specs.declared.status.Status.{Status}
use Rattle.kat_share_call.specs.declared.status.Status.TheVariants.{Done, Usage, ReadFault, Refused, Gap, Memory, WriteFault}

-- those of `katara` for the same ends; a gap has a status of its own
abbrev pub code_of : Status → ℕ
code_of Done = 0
code_of Usage = 1
code_of (ReadFault file) = 2
code_of (Refused file number at) = 3
code_of (Gap packet) = 4
code_of Memory = 7
code_of WriteFault = 8

-- it didn't end well, and the output could be written
abbrev pub LeavesOutput : Status → Type 0
LeavesOutput Done = ⊥
LeavesOutput WriteFault = ⊥
LeavesOutput status = Unit {0}

-- used inside only: what holds after a call that is done, and of a packet with a gap; after all others but a write fault the output is
-- as it was
abbrev pub Ends : Type 0 → (ℕ → Type 0) → Option (List ℕ) → Option (List ℕ) → Status → Type 0
Ends done gap before after Done = done
Ends done gap before after Usage = after ≡ before
Ends done gap before after (ReadFault file) = after ≡ before
Ends done gap before after (Refused file number at) = after ≡ before
Ends done gap before after (Gap packet) = gap packet × (after ≡ before)
Ends done gap before after Memory = after ≡ before
Ends done gap before after WriteFault = Unit {0}

-- used inside only: a command that takes no packets meets no gap
abbrev pub NoGap : ℕ → Type 0
NoGap packet = ⊥

-- used inside only: a file couldn't be read or is refused, or memory ran out
abbrev pub IsPlain : Status → Type 0
IsPlain Done = ⊥
IsPlain (Gap packet) = ⊥
IsPlain WriteFault = ⊥
IsPlain status = Unit {0}
