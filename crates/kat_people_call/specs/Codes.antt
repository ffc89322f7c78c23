-- The statuses of the process.
use Rattle.std.specs.Prelude.{ℕ}
use Rattle.kat_people_call.specs.declared.status.Status.{Status}
use Rattle.kat_people_call.specs.declared.status.Status.TheVariants.{Done, Usage, ReadFault, Refused, NoHistory, ProofRefused, Memory, WriteFault}

-- those of `katara` for the same ends
abbrev pub code_of : Status → ℕ
code_of Done = 0
code_of Usage = 1
code_of (ReadFault file) = 2
code_of (Refused file number at) = 3
code_of (NoHistory file) = 3
code_of Memory = 7
code_of WriteFault = 8
code_of (ProofRefused condition line) = 9
