-- How a call may end, whatever the command.
use Rattle.std.specs.Prelude.{◌≡◌, ℕ, zero, suc, ◌<◌, ◌≤◌, Bool, true, List, [], ◌∷◌, ◌++◌, length, map, take, Option, Some, None, IfSome, String}
use Rattle.std.specs.List.{slice_index_or}
use Rattle.std.specs.Global.{Global}
use Rattle.kat_io.specs.Outside.{Tells, grown}
use Rattle.kat_world.specs.Written.{IsCutShort}
use Rattle.kat_cli.specs.Commands.{Accepts, Ends, Inputs, IsRefusedAs, IsRefusedLate, Passes, ProofFails}
use Rattle.kat_cli.specs.Refusals.{too_long}
use Rattle.kat_words.specs.Words.{paths_of, texts}
use Rattle.kat_cli.specs.declared.status.Refusal.{Refusal}
use Rattle.kat_cli.specs.declared.status.Status.{Status}
use Rattle.kat_cli.specs.declared.status.Status.TheVariants.{Done, Usage, ReadFault, Refused, NoDesign, Undecided, Stopped, Memory, WriteFault, ProofRefused}
use Rattle.kat_words.specs.declared.words.Command.{Command}
use Rattle.kat_cli.specs.declared.reading.TheConstants.{FILE_LIMIT}

-- what something says of each path of the words
abbrev pub of_paths : {A : Type 0} → (List ℕ → A) → List (String Global) → List A
of_paths f words = map f (paths_of (texts words))

-- the bytes of a file are these, if they are told, and aren't too many
pub record IsRead (told : Option (List ℕ)) (bytes : List ℕ) : Type 0 where
  pub tells : Tells told bytes
  pub short : length bytes ≤ FILE_LIMIT

-- the bytes of all files are these, and none has too many
abbrev pub AreRead : List (Option (List ℕ)) → List (List ℕ) → Type 0
AreRead [] [] = Unit {0}
AreRead (told ∷ more) (bytes ∷ texts) = IsRead told bytes × AreRead more texts
AreRead [] (bytes ∷ texts) = ⊥
AreRead (told ∷ more) [] = ⊥

-- some bytes that the files have make this so
abbrev pub IfRead : List (Option (List ℕ)) → (List (List ℕ) → Type 0) → Type 0
IfRead told P = (bytes : List (List ℕ)) × AreRead told bytes × P bytes

-- a file has too many bytes, if they are told
abbrev pub IsTooLong : Option (List ℕ) → Type 0
IsTooLong told = IfSome told (λ bytes. FILE_LIMIT < length bytes)

-- the first file that is too long: those before it are read
pub record IsFirstLong (told : List (Option (List ℕ))) (file : ℕ) : Type 0 where
  pub within : file < length told
  pub earlier : List (List ℕ)
  pub read : AreRead (take file told) earlier
  pub long : IsTooLong (slice_index_or told file None)

-- the first file that isn't judged good, after these, given when a file passes and how one is refused
abbrev pub RefusesBy : (List (List ℕ) → List ℕ → Type 0) → (List (List ℕ) → List ℕ → Refusal → Type 0) → List (List ℕ) → List (List ℕ) → ℕ → Refusal → Type 0
RefusesBy passes refused_as earlier [] file refusal = ⊥
RefusesBy passes refused_as earlier (text ∷ rest) zero refusal = refused_as earlier text refusal
RefusesBy passes refused_as earlier (text ∷ rest) (suc file) refusal = passes earlier text × RefusesBy passes refused_as (earlier ++ text ∷ []) rest file refusal

-- the first file of a command that isn't judged good
abbrev pub Refuses : Command → List (List ℕ) → List (List ℕ) → ℕ → Refusal → Type 0
Refuses command earlier texts file refusal = RefusesBy (Passes command) (IsRefusedAs command) earlier texts file refusal

-- the files are accepted, and then a file is refused so
pub record RefusesLate (command : Command) (bytes : List (List ℕ)) (file : ℕ) (refusal : Refusal) : Type 0 where
  pub inputs : Inputs command
  pub accepted : Accepts command bytes inputs
  pub late_so : IsRefusedLate command inputs file refusal

-- which file is refused, and how: the first that is too long, else the first that isn't judged good, else
-- one that is refused for what all files say together
pub data FirstRefusal (command : Command) (told : List (Option (List ℕ))) (file : ℕ) (refusal : Refusal) : Type 0 where
  long : IsFirstLong told file → refusal ≡ too_long → FirstRefusal command told file refusal
  judged : (bytes : List (List ℕ)) → AreRead told bytes → Refuses command [] bytes file refusal → FirstRefusal command told file refusal
  late : (bytes : List (List ℕ)) → AreRead told bytes → RefusesLate command bytes file refusal → FirstRefusal command told file refusal

-- the files are accepted, and the command ends so and writes this
pub record EndsSo (command : Command) (bytes : List (List ℕ)) (status : Status) (text : List ℕ) : Type 0 where
  pub inputs : Inputs command
  pub accepted : Accepts command bytes inputs
  pub ends : Ends command inputs status text

-- the files are accepted, and the proof in them has this fault
pub record ProofRefuses (command : Command) (bytes : List (List ℕ)) (condition line : ℕ) : Type 0 where
  pub inputs : Inputs command
  pub accepted : Accepts command bytes inputs
  pub fails : ProofFails command inputs condition line

-- all of what the command writes, ending so, was written
abbrev pub WroteAll : Command → List (List ℕ) → Status → Option (List ℕ) → Option (List ℕ) → Type 0
WroteAll command bytes status old new = (text : List ℕ) × EndsSo command bytes status text × (new ≡ grown old text)

-- a prefix of what the command writes was written
abbrev pub WroteFront : Command → List (List ℕ) → Option (List ℕ) → Option (List ℕ) → Type 0
WroteFront command bytes old new = (status : Status) × (text : List ℕ) × EndsSo command bytes status text × IsCutShort old new text

-- a file that is no sure path
pub record IsUnsure (sure : List Bool) (file : ℕ) : Type 0 where
  pub within : file < length sure
  pub unsure : slice_index_or sure file true ≡ true → ⊥

-- the command ended by itself
abbrev pub IsEnd : Status → Type 0
IsEnd Done = Unit {0}
IsEnd NoDesign = Unit {0}
IsEnd Undecided = Unit {0}
IsEnd Stopped = Unit {0}
IsEnd status = ⊥

-- nothing was written with this status
abbrev pub LeavesSink : Status → Type 0
LeavesSink Usage = Unit {0}
LeavesSink (ReadFault file) = Unit {0}
LeavesSink (Refused file refusal) = Unit {0}
LeavesSink (ProofRefused condition line) = Unit {0}
LeavesSink status = ⊥

-- the status of a call for which the files are told and nothing fails, unless memory runs out
abbrev pub Verdict : Command → List (List ℕ) → Status → Type 0
Verdict command bytes Usage = ⊥
Verdict command bytes (ReadFault file) = ⊥
Verdict command bytes WriteFault = ⊥
Verdict command bytes Memory = Unit {0}
Verdict command bytes (Refused file refusal) = FirstRefusal command (map Some bytes) file refusal
Verdict command bytes (ProofRefused condition line) = IfRead (map Some bytes) (λ read. ProofRefuses command read condition line)
Verdict command bytes status = IfRead (map Some bytes) (λ read. (text : List ℕ) × EndsSo command read status text)
