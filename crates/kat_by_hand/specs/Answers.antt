-- What is promised of a file that is given.
use Rattle.std.specs.Prelude.{◌≡◌, ℕ, ◌≤◌, List, length}
use Rattle.kat_check.specs.Acceptance.{IsAcceptedFile}
use Rattle.kat_design.specs.Designs.{DesignForm}
use Rattle.kat_by_hand.specs.declared.files.TheConstants.{TEXT_LIMIT}
use Rattle.kat_type.specs.Signatures.{signature_of}
use Rattle.kat_type.specs.Types.{TypeForm}
use Rattle.kat_wire.specs.FileForms.{FileForm}
use Rattle.kat_wire.specs.Files.{IsFileText}
use Rattle.kat_by_hand.specs.declared.answers.Answer.{Answer}
use Rattle.kat_by_hand.specs.declared.answers.Answer.TheVariants as answer
use Rattle.kat_by_hand.specs.declared.proving.Proof.{Proof}
use Rattle.kat_by_hand.specs.declared.proving.Proof.TheVariants as proof

-- The bytes are those of a design file with the type's signature, and `check` accepts it for the type. They are few enough
-- to be read again.
pub record IsAcceptedText (ty : TypeForm) (bytes : List ℕ) : Type 0 where
  pub file : FileForm
  pub is_file : IsFileText bytes file
  pub agrees : signature_of ty ≡ file.design.sig
  pub accepted : IsAcceptedFile ty file
  pub short : length bytes ≤ TEXT_LIMIT

-- such bytes of a file with this design
pub record IsProvedText (ty : TypeForm) (design : DesignForm) (bytes : List ℕ) : Type 0 where
  pub text : IsAcceptedText ty bytes
  pub same : text.file.design ≡ design

-- a design is proved, or isn't, of which nothing is promised
abbrev pub IsProof : TypeForm → DesignForm → Proof → Type 0
IsProof ty design (proof.File bytes) = IsProvedText ty design bytes.items
IsProof ty design (proof.Unproved proving) = Unit {0}
IsProof ty design proof.Long = Unit {0}

-- such bytes, or a report, of which nothing is promised
abbrev pub IsAnswer : TypeForm → Answer → Type 0
IsAnswer ty (answer.File bytes) = IsAcceptedText ty bytes.items
IsAnswer ty (answer.Report text) = Unit {0}

-- the same for a design that is given: the file has that one
abbrev pub IsAnswerOf : TypeForm → DesignForm → Answer → Type 0
IsAnswerOf ty design (answer.File bytes) = IsProvedText ty design bytes.items
IsAnswerOf ty design (answer.Report text) = Unit {0}
