-- What a call of `katara` over bytes says: the clauses of `katara`, for files that are all told and a place for output that is empty.
use Rattle.std.specs.Prelude.{◌≡◌, ◌⊎◌, ℕ, ◌<◌, List, [], ◌∷◌, codes, length, map, Option, None, Some, String, Vec}
use Rattle.std.specs.List.{slice_index_or}
use Rattle.std.specs.Global.{Global}
use Rattle.kat_cli.specs.Codes.{code_of}
use Rattle.kat_cli.specs.Headline.{WroteAnswers}
use Rattle.kat_cli.specs.Outcome.{FirstRefusal, IfRead, IsEnd, LeavesSink, ProofRefuses, Verdict, WroteAll, WroteFront, of_paths}
use Rattle.kat_cli.specs.Texts.{status_line}
use Rattle.kat_cli.specs.declared.status.Refusal.{Refusal}
use Rattle.kat_cli.specs.declared.status.Status.{Status}
use Rattle.kat_cli.specs.declared.status.Status.TheVariants.{Done, Usage, ReadFault, Refused, Memory, WriteFault, ProofRefused}
use Rattle.kat_passed.specs.Passing.{told_in}
use Rattle.kat_words.specs.Words.{command_of, paths_of, texts}
use Rattle.kat_words.specs.declared.words.Command.{Command}
use Rattle.katara_call.specs.Called.{IsCall}
use Rattle.katara_call.specs.Passed.{Passed}

-- a file of which nothing is told
pub record IsUntold (told : List (Option (List ℕ))) (file : ℕ) : Type 0 where
  pub within : file < length told
  pub none : slice_index_or told file (Some []) ≡ None

-- What `katara` promises of these words, with what is reported of each path, if what was written before and after is this.
pub record KataraEnds (words : List (String Global)) (told : List ℕ → Option (List ℕ)) (status : Status) (before after : List ℕ)
    : Type 0 where
  -- the headline: what `run` wrote has the type's answers to the script, in every order that respects the ranks
  pub answers : (first second third : List ℕ) → texts words ≡ codes "run" ∷ first ∷ second ∷ third ∷ [] → status ≡ Done
      → WroteAnswers (told first) (told third) (Some before) (Some after)
  -- the words alone make it usage
  pub usage : status ≡ Usage → command_of (texts words) ≡ None
  pub unasked : command_of (texts words) ≡ None → ((status ≡ Usage) ⊎ (status ≡ Memory)) × (after ≡ before)
  -- a command that ended by itself wrote what it is to write
  pub ended : (command : Command) → command_of (texts words) ≡ Some command → IsEnd status
      → IfRead (of_paths told words) (λ bytes. WroteAll command bytes status (Some before) (Some after))
  -- a file is refused only for what it is, and a proof only for what it says
  pub refused : (command : Command) (file : ℕ) (refusal : Refusal) → command_of (texts words) ≡ Some command
      → status ≡ Refused file refusal → FirstRefusal command (of_paths told words) file refusal
  pub proof_refused : (command : Command) (condition line : ℕ) → command_of (texts words) ≡ Some command
      → status ≡ ProofRefused condition line → IfRead (of_paths told words) (λ bytes. ProofRefuses command bytes condition line)
  -- a file can't be read only if it isn't passed, and output can always be written
  pub read_fault : (file : ℕ) → status ≡ ReadFault file → IsUntold (of_paths told words) file
  pub no_write_fault : status ≡ WriteFault → ⊥
  -- what was written when it didn't end well
  pub memory : (command : Command) → command_of (texts words) ≡ Some command → status ≡ Memory
      → (after ≡ before) ⊎ IfRead (of_paths told words) (λ bytes. WroteFront command bytes (Some before) (Some after))
  pub untouched : LeavesSink status → after ≡ before
  -- if all files are passed, it ends as it has to, unless memory runs out
  pub complete : (command : Command) (bytes : List (List ℕ)) → command_of (texts words) ≡ Some command
      → of_paths told words ≡ map Some bytes → Verdict command bytes status

-- how the call of the program ends: its status, what it wrote, and the line of the status, if there was memory for it
pub record EndsKatara (words : List (String Global)) (files : List (String Global × Vec ℕ Global)) (code : ℕ) (written line : List ℕ)
    : Type 0 where
  pub status : Status
  pub coded : code ≡ code_of status
  pub line_is : (line ≡ status_line (paths_of (texts words)) status) ⊎ (line ≡ [])
  pub ends : KataraEnds words (told_in files) status [] written

abbrev pub IsKataraCall : Passed → ℕ → List ℕ → List ℕ → Type 0
IsKataraCall passed = IsCall passed EndsKatara
