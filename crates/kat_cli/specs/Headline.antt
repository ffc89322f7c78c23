-- The headline: what `run` wrote if it ended as done.
use Rattle.std.specs.Prelude.{◌≡◌, ℕ, List, Option}
use Rattle.kat_io.specs.Outside.{Tells, grown}
use Rattle.kat_script.specs.Script.{IsScriptText}
use Rattle.kat_script.specs.World.{World}
use Rattle.kat_script.specs.declared.script.Script.{Script}
use Rattle.kat_type.specs.Signatures.{signature_of}
use Rattle.kat_type.specs.Types.{TypeForm}
use Rattle.kat_type_file.specs.TypeFiles.{IsTypeFile}
use Rattle.kat_world.specs.Answers.{AnswersSequentially}

-- The text has, for each ask of the script that the last file says, the answer of the type that the first file says: after
-- the operations that the asked replica absorbed, in every order that respects the ranks. Of what a show prints, nothing is
-- said here.
pub record AnswersAsFilesSay (type_text script_text text : List ℕ) : Type 0 where
  pub ty : TypeForm
  pub script : Script
  pub shown : World → ℕ → List ℕ
  pub is_type : IsTypeFile type_text ty
  pub is_script : IsScriptText (signature_of ty) script_text script
  pub answers : AnswersSequentially ty shown script text

-- such a text was written, for bytes of the two files that are those that are told, if any are told
abbrev pub WroteAnswers : Option (List ℕ) → Option (List ℕ) → Option (List ℕ) → Option (List ℕ) → Type 0
WroteAnswers type_file script_file old new = (type_text script_text text : List ℕ)
    × Tells type_file type_text × Tells script_file script_text
    × AnswersAsFilesSay type_text script_text text × (new ≡ grown old text)
