-- Texts of a type and of a design that is accepted for it, and how others are refused.
use Rattle.std.specs.Prelude.{◌≡◌, ℕ, List}
use Rattle.kat_check.specs.Acceptance.{IsAcceptedFile, IsFirstFault}
use Rattle.kat_type.specs.Signatures.{signature_of}
use Rattle.kat_type.specs.Types.{TypeForm}
use Rattle.kat_type.specs.declared.errors.TypeError.{TypeError}
use Rattle.kat_type.specs.declared.errors.TypeError.TheVariants as type_file
use Rattle.kat_type.specs.declared.errors.TypeError.TheVariants.{Refused}
use Rattle.kat_type_file.specs.TypeFiles.{IsRefusedFile, IsTypeFile}
use Rattle.kat_json.specs.declared.errors.WireError.{WireError}
use Rattle.kat_wire.specs.FileForms.{FileForm}
use Rattle.kat_wire.specs.Files.{IsFileText}
use Rattle.kat_wire.specs.Judgements.{IsRefusal}
use Rattle.kat_embed.specs.declared.errors.AcceptError.{AcceptError}
use Rattle.kat_embed.specs.declared.errors.AcceptError.TheVariants.{BadType, BadDesign, OtherSignature, BadProof, Memory}

-- the two texts say this: a sequential type, and a design file of its signature
pub record AreTexts (first second : List ℕ) (ty : TypeForm) (file : FileForm) : Type 0 where
  pub says : IsTypeFile first ty
  pub is_file : IsFileText second file
  pub agree : signature_of ty ≡ file.design.sig

-- they say a type and a file of its signature, and the file is accepted for the type
pub record AreAccepted (first second : List ℕ) (ty : TypeForm) (file : FileForm) : Type 0 where
  pub texts : AreTexts first second ty file
  pub accepted : IsAcceptedFile ty file

-- the first text says a type, and the second one is refused
pub record IsDesignRefused (first second : List ℕ) (error : WireError) : Type 0 where
  pub ty : TypeForm
  pub says : IsTypeFile first ty
  pub refused : IsRefusal second error

-- the second text is a design file of another signature than that of the type
pub record IsOther (first second : List ℕ) : Type 0 where
  pub ty : TypeForm
  pub file : FileForm
  pub says : IsTypeFile first ty
  pub is_file : IsFileText second file
  pub differ : signature_of ty ≡ file.design.sig → ⊥

-- the proof has this first fault
pub record IsFaulty (first second : List ℕ) (condition line : ℕ) : Type 0 where
  pub ty : TypeForm
  pub file : FileForm
  pub texts : AreTexts first second ty file
  pub fault : IsFirstFault ty file condition line

-- how the two texts are refused; out of memory tells nothing
abbrev pub IsUnaccepted : List ℕ → List ℕ → AcceptError → Type 0
IsUnaccepted first second (BadType number at) = IsRefusedFile first (Refused number at)
IsUnaccepted first second (BadDesign error) = IsDesignRefused first second error
IsUnaccepted first second OtherSignature = IsOther first second
IsUnaccepted first second (BadProof condition line) = IsFaulty first second condition line
IsUnaccepted first second Memory = Unit {0}

-- used inside only: a refusal of a type file
abbrev pub refused_type : TypeError → AcceptError
refused_type (Refused number at) = BadType number at
refused_type type_file.Memory = Memory

-- used inside only: what the check of a proof answers
abbrev pub IsFaultOf : TypeForm → FileForm → AcceptError → Type 0
IsFaultOf ty file (BadProof condition line) = IsFirstFault ty file condition line
IsFaultOf ty file Memory = Unit {0}
IsFaultOf ty file error = ⊥
