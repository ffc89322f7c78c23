-- What `migrate TYPE DESIGN` writes. It takes the files that `check` takes, judged in the same way.
use Rattle.std.specs.Prelude.{◌≡◌, ℕ, ◌<◌, ◌≤◌, List, [], length}
use Rattle.kat_check.specs.Acceptance.{IsAcceptedFile}
use Rattle.kat_check.specs.Migration.{migrated_file}
use Rattle.kat_design.specs.Sorted.{EachHas}
use Rattle.kat_refute.specs.Lines.{Line, rup, linear, hinted}
use Rattle.kat_wire.specs.FileForms.{IsIndex}
use Rattle.kat_wire.specs.Printed.{file_text}
use Rattle.kat_cli.specs.CheckCommand.{Inputs}
use Rattle.kat_cli.specs.Refusals.{long_result}
use Rattle.kat_cli.specs.declared.reading.TheConstants.{FILE_LIMIT}
use Rattle.kat_cli.specs.declared.status.Refusal.{Refusal}
use Rattle.kat_cli.specs.declared.status.Status.{Status}
use Rattle.kat_cli.specs.declared.status.Status.TheVariants.{Done}

-- what is written: the text of the file in version 2, which names no earlier designs
abbrev pub output : Inputs → List ℕ
output inputs = file_text (migrated_file inputs.ty inputs.file) []

-- `migrate` ends by itself only if the file is accepted for the type, and the text has no more bytes than a file may have
pub record Ends (inputs : Inputs) (status : Status) (text : List ℕ) : Type 0 where
  pub accepted : IsAcceptedFile inputs.ty inputs.file
  pub short : length (output inputs) ≤ FILE_LIMIT
  pub done : status ≡ Done
  pub migrated : text ≡ output inputs

-- each hint is a number that a file may have
abbrev pub HasSmallHints : Line → Type 0
HasSmallHints (rup literals) = Unit {0}
HasSmallHints (linear literals multipliers) = Unit {0}
HasSmallHints (hinted literals hints) = EachHas IsIndex hints

abbrev pub HaveSmallHints : List (List Line) → Type 0
HaveSmallHints proof = EachHas (EachHas HasSmallHints) proof

-- if the text has more bytes, the design file is refused
pub record IsRefusedLate (inputs : Inputs) (file : ℕ) (refusal : Refusal) : Type 0 where
  pub accepted : IsAcceptedFile inputs.ty inputs.file
  pub long : FILE_LIMIT < length (output inputs)
  pub second : file ≡ 1
  pub refused : refusal ≡ long_result
