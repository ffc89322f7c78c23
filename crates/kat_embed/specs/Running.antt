-- Scripts that are run with an accepted design.
use Rattle.std.specs.Prelude.{◌≡◌, ℕ, List}
use Rattle.kat_script.specs.Script.{IsScriptText, TellsRefusal}
use Rattle.kat_script.specs.declared.error.ScriptError.{ScriptError}
use Rattle.kat_script.specs.declared.script.Script.{Script}
use Rattle.kat_type.specs.Types.{TypeForm}
use Rattle.kat_wire.specs.FileForms.{FileForm}
use Rattle.kat_world.specs.Answers.{AnswersSequentially}
use Rattle.kat_world.specs.AsType.{ShowsNothing}
use Rattle.kat_world.specs.Lines.{lines_of, shown_by}
use Rattle.kat_world.specs.Model.{model_lines}
use Rattle.kat_embed.specs.Accepting.{AreAccepted, AreTexts, IsUnaccepted}
use Rattle.kat_embed.specs.declared.errors.RunError.{RunError}
use Rattle.kat_embed.specs.declared.errors.RunError.TheVariants.{Unaccepted, BadScript, Memory}

-- The text is what the design of the second text writes on the script of the third one: the file is accepted for the type of the
-- first, each ask has the answer of the type after the operations that its replica absorbed, in every order that respects the ranks,
-- and each show the clock and the state. If the script has no show, these are the lines of the type.
pub record IsRunOf (first second third text : List ℕ) : Type 0 where
  pub ty : TypeForm
  pub file : FileForm
  pub script : Script
  pub accepted : AreAccepted first second ty file
  pub is_script : IsScriptText file.design.sig third script
  pub lines : text ≡ lines_of file.design script
  pub sequential : AnswersSequentially ty (shown_by file.design) script text
  pub modelled : ShowsNothing script → text ≡ model_lines ty script

-- the first two texts say a type and a design of its signature, and the script is refused
pub record IsScriptRefused (first second third : List ℕ) (error : ScriptError) : Type 0 where
  pub ty : TypeForm
  pub file : FileForm
  pub texts : AreTexts first second ty file
  pub refused : TellsRefusal file.design.sig third error

-- how the three texts are refused; out of memory tells nothing
abbrev pub IsNotRun : List ℕ → List ℕ → List ℕ → RunError → Type 0
IsNotRun first second third (Unaccepted error) = IsUnaccepted first second error
IsNotRun first second third (BadScript error) = IsScriptRefused first second third error
IsNotRun first second third Memory = Unit {0}
