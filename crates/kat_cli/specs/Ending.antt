-- Used inside only.
-- How a call and its parts end, by the status.
use Rattle.std.specs.Prelude.{◌≡◌, ℕ, ◌<◌, ◌≤◌, ◌⊎◌, Bool, true, List, [], ◌∷◌, length, map, Option, Result, Ok, Err, Vec}
use Rattle.std.specs.Global.{Global}
use Rattle.kat_check.specs.Acceptance.{IsFirstFault}
use Rattle.kat_check.specs.declared.acceptance.Checked.{Checked}
use Rattle.kat_check.specs.declared.acceptance.Checked.TheVariants as checked
use Rattle.kat_io.specs.Outside.{Rose, grown}
use Rattle.kat_type.specs.Types.{TypeForm}
use Rattle.kat_wire.specs.FileForms.{FileForm}
use Rattle.kat_cli.specs.Outcome.{FirstRefusal, IfRead, IsFirstLong, IsTooLong, IsUnsure, ProofRefuses, Refuses, RefusesLate, WroteAll, WroteFront}
use Rattle.kat_world.specs.Written.{IsCutShort}
use Rattle.kat_world.specs.declared.writing.WorldError.{WorldError}
use Rattle.kat_world.specs.declared.writing.WorldError.TheVariants as world
use Rattle.kat_cli.specs.Refusals.{long_result, too_long}
use Rattle.kat_cli.specs.declared.reading.TheConstants.{FILE_LIMIT}
use Rattle.kat_cli.specs.declared.status.Status.{Status}
use Rattle.kat_cli.specs.declared.status.Status.TheVariants.{Done, Usage, ReadFault, Refused, Memory, WriteFault, ProofRefused}
use Rattle.kat_words.specs.declared.words.Command.{Command}
use Rattle.kat_words.specs.declared.words.Command.TheVariants as command

-- the contents of vectors of bytes
abbrev pub contents : List (Vec ℕ Global) → List (List ℕ)
contents vectors = map (λ (vector : Vec ℕ Global). vector.items) vectors

-- one file: what is reported of it, whether its path is sure, and the count of faults before and after
pub record FileSeen : Type 0 where
  pub told : Option (List ℕ)
  pub sure : Bool
  pub faults : ℕ
  pub faults_after : ℕ

-- all files
pub record FilesSeen : Type 0 where
  pub told : List (Option (List ℕ))
  pub sure : List Bool
  pub faults : ℕ
  pub faults_after : ℕ

-- the place for output: what was written before and after, and the count of faults
pub record OutputSeen : Type 0 where
  pub written : Option (List ℕ)
  pub written_after : Option (List ℕ)
  pub faults : ℕ
  pub faults_after : ℕ

-- a file isn't read
abbrev pub FailsAt : FileSeen → ℕ → Status → Type 0
FailsAt seen file Memory = Unit {0}
FailsAt seen file (ReadFault failed) = (failed ≡ file) × Rose seen.faults seen.faults_after × (seen.sure ≡ true → ⊥)
FailsAt seen file (Refused refused refusal) = (refused ≡ file) × (refusal ≡ too_long) × IsTooLong seen.told
FailsAt seen file status = ⊥

-- the files aren't all read
abbrev pub FailsToRead : FilesSeen → Status → Type 0
FailsToRead seen Memory = Unit {0}
FailsToRead seen (ReadFault file) = Rose seen.faults seen.faults_after × IsUnsure seen.sure file
FailsToRead seen (Refused file refusal) = IsFirstLong seen.told file × (refusal ≡ too_long)
FailsToRead seen status = ⊥

-- a text is written if the command ends like this
abbrev pub Prints : List ℕ → Status → OutputSeen → Status → Type 0
Prints text end seen Memory = IsCutShort seen.written seen.written_after text
Prints text end seen WriteFault = Rose seen.faults seen.faults_after × IsCutShort seen.written seen.written_after text
Prints text end seen status = (status ≡ end) × (seen.written_after ≡ grown seen.written text)

-- a type file and a design file after it aren't judged good, as `check` judges them
abbrev pub FailsToPass : List ℕ → List ℕ → Status → Type 0
FailsToPass first second Memory = Unit {0}
FailsToPass first second (Refused file refusal) = Refuses command.Check [] (first ∷ second ∷ []) file refusal
FailsToPass first second status = ⊥

-- how the check of a proof ends a call: it isn't accepted for the type, or memory runs out
abbrev pub FailsProof : TypeForm → FileForm → Status → Type 0
FailsProof ty file Memory = Unit {0}
FailsProof ty file (ProofRefused condition line) = IsFirstFault ty file condition line
FailsProof ty file status = ⊥

-- how a command ends that writes once a proof is accepted
abbrev pub ended_status : Result Checked WorldError → Status
ended_status (Ok checked.Accepted) = Done
ended_status (Ok (checked.Refused condition line)) = ProofRefused condition line
ended_status (Err world.WriteFault) = WriteFault
ended_status (Err world.Memory) = Memory

-- a text is written, unless it has more bytes than a file may have: then the second file is refused
abbrev pub WritesShort : List ℕ → OutputSeen → Status → Type 0
WritesShort text seen status =
    (FILE_LIMIT < length text) × (status ≡ Refused 1 long_result) × (seen.written_after ≡ seen.written)
    ⊎ (length text ≤ FILE_LIMIT) × Prints text Done seen status
    ⊎ (status ≡ Memory) × (seen.written_after ≡ seen.written)

-- files that are read are judged, and the command does what it is to do
abbrev pub Judges : Command → List (List ℕ) → OutputSeen → Status → Type 0
Judges command bytes seen Usage = ⊥
Judges command bytes seen (ReadFault file) = ⊥
Judges command bytes seen (Refused file refusal) =
    (Refuses command [] bytes file refusal ⊎ RefusesLate command bytes file refusal) × (seen.written_after ≡ seen.written)
Judges command bytes seen (ProofRefused condition line) = ProofRefuses command bytes condition line × (seen.written_after ≡ seen.written)
Judges command bytes seen Memory = (seen.written_after ≡ seen.written) ⊎ WroteFront command bytes seen.written seen.written_after
Judges command bytes seen WriteFault = Rose seen.faults seen.faults_after × WroteFront command bytes seen.written seen.written_after
Judges command bytes seen status = WroteAll command bytes status seen.written seen.written_after

-- the whole call, after its words
abbrev pub Outcome : Command → FilesSeen → OutputSeen → Status → Type 0
Outcome command files seen Usage = ⊥
Outcome command files seen (ReadFault file) = Rose files.faults files.faults_after × IsUnsure files.sure file × (seen.written_after ≡ seen.written)
Outcome command files seen (Refused file refusal) = FirstRefusal command files.told file refusal × (seen.written_after ≡ seen.written)
Outcome command files seen (ProofRefused condition line) =
    IfRead files.told (λ bytes. ProofRefuses command bytes condition line) × (seen.written_after ≡ seen.written)
Outcome command files seen Memory =
    (seen.written_after ≡ seen.written) ⊎ IfRead files.told (λ bytes. WroteFront command bytes seen.written seen.written_after)
Outcome command files seen WriteFault =
    Rose seen.faults seen.faults_after × IfRead files.told (λ bytes. WroteFront command bytes seen.written seen.written_after)
Outcome command files seen status = IfRead files.told (λ bytes. WroteAll command bytes status seen.written seen.written_after)
