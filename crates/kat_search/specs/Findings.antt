-- Used inside only.
-- The state of a search, and its steps.
use Rattle.std.specs.Prelude.{◌≡◌, ℕ, ◌+◌, ◌<◌, ◌≤◌, ◌==◌, ◌||◌, Bool, true, false, List, [], ◌++◌, length, map, All, Option, None, Some, Vec}
use Rattle.std.specs.List.{slice_index_or}
use Rattle.std.specs.Global.{Global}
use Rattle.kat_check.specs.Acceptance.{IsAcceptedFile}
use Rattle.kat_design.specs.Designs.{DesignForm}
use Rattle.kat_design.specs.Faults.{faults_of}
use Rattle.kat_design.specs.Sorted.{IsWellSorted}
use Rattle.kat_histories.specs.Histories.{histories, history_of}
use Rattle.kat_histories.specs.declared.histories.History.{History}
use Rattle.kat_type.specs.Signatures.{signature_of}
use Rattle.kat_type.specs.Types.{TypeForm}
use Rattle.kat_type.specs.declared.signatures.Signature.{Signature}
use Rattle.kat_wire.specs.FileForms.{FileForm}
use Rattle.kat_wire.specs.Files.{IsFileText}
use Rattle.kat_wire.specs.Printed.{file_text}
use Rattle.kat_wire.specs.declared.causes.Cause.{Cause}
use Rattle.kat_telling.specs.Entries.{AgreesOn, Entry, IsTold, Told, design_of, histories_for, told_behind}
use Rattle.kat_telling.specs.Hinted.{IsHintedFile}
use Rattle.kat_telling.specs.Narrow.{IsNarrowEntry}
use Rattle.kat_telling.specs.Reports.{entry_text}
use Rattle.kat_search.specs.declared.findings.Findings.{Findings}
use Rattle.kat_telling.specs.declared.limits.TheConstants.{TEXT_LIMIT, UNDECIDED_LIMIT}

-- the history with a number among all of a signature
abbrev pub history_at : Signature → ℕ → History
history_at sig number = slice_index_or (histories sig) number (history_of [])

-- those with these numbers
abbrev pub histories_at : Signature → List ℕ → List History
histories_at sig numbers = map (history_at sig) numbers

-- each is the number of one
abbrev pub AreNumbers : Signature → List ℕ → Type 0
AreNumbers sig numbers = All (λ (number : ℕ). number < length (histories sig)) numbers

-- what a search has told so far
abbrev pub told_of : Findings → Told
told_of t = record { count = t.count; cited = histories_at t.sig t.cited.items; passed = t.passed.items }

-- nothing was told yet
pub record IsEmpty (t : Findings) : Type 0 where
  pub count : t.count ≡ 0
  pub cited : t.cited.items ≡ []
  pub passed : t.passed.items ≡ []
  pub report : t.report.items ≡ []

-- the search is one for the type, and what it cites are histories of the type
pub record IsFor (ty : TypeForm) (t : Findings) : Type 0 where
  pub sig : t.sig ≡ signature_of ty
  pub numbers : AreNumbers (signature_of ty) t.cited.items

-- a design that a listing of the type has
pub record IsTryable (ty : TypeForm) (d : DesignForm) : Type 0 where
  pub sorted : IsWellSorted d
  pub accepted : faults_of d ≡ []
  pub agrees : d.sig ≡ signature_of ty

-- an entry, whose numbers are narrow, was told after what was told before
pub record Tells (entry : Entry) (old new : Findings) : Type 0 where
  pub count : new.count ≡ old.count + 1
  pub cited : histories_at old.sig new.cited.items ≡ (told_behind (told_of old) entry).cited
  pub numbers : AreNumbers old.sig old.cited.items → AreNumbers old.sig new.cited.items
  pub passed : new.passed.items ≡ (told_behind (told_of old) entry).passed
  pub report : new.report.items ≡ old.report.items ++ entry_text old.sig (told_of old) entry
  pub sig : new.sig ≡ old.sig
  pub narrow : IsNarrowEntry entry

-- a design was refuted, or passed over
pub record TellsOf (ty : TypeForm) (effort : ℕ) (d : DesignForm) (old new : Findings) : Type 0 where
  pub entry : Entry
  pub of_design : design_of entry ≡ d
  pub so : IsTold ty effort (told_of old) entry
  pub tells : Tells entry old new

-- a design is refuted and told, whatever the effort, or agrees on all histories, and then nothing is told
abbrev pub Refutes : TypeForm → DesignForm → Findings → Findings → Bool → Type 0
Refutes ty d old new true = (effort : ℕ) → TellsOf ty effort d old new
Refutes ty d old new false = AgreesOn ty d (histories_for ty) × (new ≡ old)

-- a design was proved, and this is the text of its file, which has version 2 and exactly the hints that are found for its lines
pub record IsFileOf (ty : TypeForm) (d : DesignForm) (passed : List (ℕ × Cause)) (bytes : List ℕ) : Type 0 where
  pub file : FileForm
  pub version : file.version ≡ 2
  pub design : file.design ≡ d
  pub agrees : AgreesOn ty d (histories_for ty)
  pub accepted : IsAcceptedFile ty file
  pub hints : IsHintedFile ty file
  pub text : bytes ≡ file_text file passed
  pub read_again : IsFileText bytes file
  pub short : length bytes ≤ TEXT_LIMIT

-- what comes of a design that is tried
abbrev pub Tries : TypeForm → ℕ → DesignForm → Findings → Findings → Option (Vec ℕ Global) → Type 0
Tries ty effort d old new None = TellsOf ty effort d old new
Tries ty effort d old new (Some file) = IsFileOf ty d old.passed.items file.items

-- as many designs were tried as were asked, or as many are undecided as may be
abbrev pub is_over : ℕ → ℕ → ℕ → Bool
is_over designs count open_ones = (count == designs) || (open_ones == UNDECIDED_LIMIT)
