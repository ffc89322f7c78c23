-- What a call that writes a design as code, and ends well, wrote.
use Rattle.std.specs.Prelude.{◌≡◌, ℕ, List, Option}
use Rattle.kat_check.specs.Acceptance.{IsAcceptedFile}
use Rattle.kat_io.specs.Outside.{grown}
use Rattle.kat_type.specs.Signatures.{signature_of}
use Rattle.kat_type.specs.Types.{TypeForm}
use Rattle.kat_type_file.specs.TypeFiles.{IsTypeFile}
use Rattle.kat_wire.specs.FileForms.{FileForm}
use Rattle.kat_wire.specs.Files.{IsFileText}

-- A design file that is accepted for a type of its signature: a text came after what was written. Which one isn't said.
pub record Emitted (ty : TypeForm) (file : FileForm) (before after : Option (List ℕ)) : Type 0 where
  pub agrees : signature_of ty ≡ file.design.sig
  pub accepted : IsAcceptedFile ty file
  pub code : List ℕ
  pub wrote : after ≡ grown before code

-- the texts say such a type and such a file
pub record EmittedTexts (type_text design_text : List ℕ) (before after : Option (List ℕ)) : Type 0 where
  pub ty : TypeForm
  pub says : IsTypeFile type_text ty
  pub file : FileForm
  pub is_file : IsFileText design_text file
  pub emitted : Emitted ty file before after
