-- The line of a status on standard error.
use Rattle.std.specs.Prelude.{ℕ, List, [], ◌∷◌, ◌++◌, ◌==◌, if◌then◌else◌, codes}
use Rattle.std.specs.List.{flat_map, slice_index_or}
use Rattle.std.specs.Fmt.{decimal}
use Rattle.kat_cli.specs.declared.status.At.{At}
use Rattle.kat_cli.specs.declared.status.At.TheVariants.{Byte, Line, Late, Gap, Place, Length}
use Rattle.kat_cli.specs.declared.status.Refusal.{Refusal}
use Rattle.kat_cli.specs.declared.status.Status.{Status}
use Rattle.kat_cli.specs.declared.status.Status.TheVariants.{Done, Usage, ReadFault, Refused, NoDesign, Undecided, Stopped, Memory, WriteFault, ProofRefused}

-- the name of a refusal by its number
abbrev pub refusal_name : ℕ → List ℕ
refusal_name number =
    if number == 1 then codes "BadByte"
    else if number == 2 then codes "LongName"
    else if number == 3 then codes "LongNumber"
    else if number == 4 then codes "Syntax"
    else if number == 5 then codes "Unknown"
    else if number == 6 then codes "Twice"
    else if number == 7 then codes "WrongSort"
    else if number == 8 then codes "RankMismatch"
    else if number == 9 then codes "TooLarge"
    else if number == 10 then codes "Syntax"
    else if number == 11 then codes "NoReplica"
    else if number == 12 then codes "NoPacket"
    else if number == 13 then codes "Late"
    else if number == 14 then codes "BadCall"
    else if number == 15 then codes "TooLarge"
    else if number == 16 then codes "BadDesign"
    else if number == 17 then codes "Json"
    else if number == 18 then codes "Form"
    else if number == 19 then codes "Version"
    else if number == 20 then codes "FileLong"
    else if number == 22 then codes "LongResult"
    else if number == 23 then codes "NoCount"
    else if number == 24 then codes "Gap"
    else if number == 25 then codes "BadReport"
    else if number == 26 then codes "NotShown"
    else if number == 27 then codes "WidePoint"
    else if number == 28 then codes "BadState"
    else if number == 29 then codes "FullState"
    else codes "Refused"

-- indices from the top down, joined by points, and `top` for none
abbrev pub place_text : List ℕ → List ℕ
place_text [] = codes "top"
place_text (index ∷ indices) = decimal index ++ flat_map (λ next. 46 ∷ decimal next) indices

-- of how many operations one had, and how many were needed
abbrev pub counts_text : ℕ → ℕ → List ℕ
counts_text have need = codes " have " ++ decimal have ++ codes " need " ++ decimal need

-- where a file is refused, after the refusal's number
abbrev pub at_text : At → List ℕ
at_text (Byte byte) = codes " at byte " ++ decimal byte
at_text (Line line) = codes " at line " ++ decimal line
at_text (Late line clock) = codes " at line " ++ decimal line ++ codes " clock " ++ decimal clock
at_text (Gap line origin have need) = codes " at line " ++ decimal line ++ codes " origin " ++ decimal origin ++ counts_text have need
at_text (Place indices) = codes " at " ++ place_text indices
at_text Length = []

-- `NAME NUMBER PLACE`
abbrev pub refusal_text : Refusal → List ℕ
refusal_text refusal = refusal_name refusal.number ++ 32 ∷ decimal refusal.number ++ at_text refusal.at

-- the path of a file by its number, or nothing if there is none
abbrev pub path_at : List (List ℕ) → ℕ → List ℕ
path_at paths file = slice_index_or paths file []

-- the line, of which nothing is printed if all went well
abbrev pub status_line : List (List ℕ) → Status → List ℕ
status_line paths Done = []
status_line paths Usage = codes "usage\n"
status_line paths (ReadFault file) = codes "read fault: " ++ path_at paths file ++ codes "\n"
status_line paths (Refused file refusal) = path_at paths file ++ codes ": " ++ refusal_text refusal ++ codes "\n"
status_line paths NoDesign = codes "no design\n"
status_line paths Undecided = codes "undecided\n"
status_line paths Stopped = codes "stopped\n"
status_line paths Memory = codes "out of memory\n"
status_line paths WriteFault = codes "write fault\n"
status_line paths (ProofRefused condition line) = codes "proof refused: condition " ++ decimal condition ++ codes " line " ++ decimal line ++ codes "\n"
