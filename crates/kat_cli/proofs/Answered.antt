-- What `run` wrote if it ended as done: answers of the type in every order that respects the ranks.
use Rattle.std.proofs.Common.{◌≡◌, ℕ, List, [], ◌∷◌, map, Option, Some, refl, sym, ap, subst, ◌∙◌}
use Rattle.std.specs.Prelude.{codes}
use Rattle.kat_io.specs.Outside.{Tells, grown}
use Rattle.kat_script.specs.Script.{IsScriptText}
use Rattle.kat_world.specs.Lines.{shown_by}
use Rattle.kat_words.specs.Parts.{Text}
use Rattle.kat_words.specs.Words.{request_of}
use Rattle.kat_words.specs.declared.words.Command.{Command}
use Rattle.kat_words.specs.declared.words.Command.TheVariants as command
use Rattle.kat_cli.specs.Ending.{FilesSeen, Outcome, OutputSeen}
use Rattle.kat_cli.specs.Headline.{AnswersAsFilesSay, WroteAnswers}
use Rattle.kat_cli.specs.Outcome.{AreRead, EndsSo, IfRead, WroteAll}
use Rattle.kat_cli.specs.declared.status.Status.{Status}
use Rattle.kat_cli.specs.declared.status.Status.TheVariants.{Done}
use Rattle.kat_cli.proofs.PlainWords.{run_asked}

pub answers_as_files_say : (first second third text : List ℕ) → EndsSo command.Run (first ∷ second ∷ third ∷ []) Done text → AnswersAsFilesSay first third text
answers_as_files_say first second third text so = record {
  ty = so.inputs.ty;
  script = so.inputs.script;
  shown = shown_by so.inputs.file.design;
  is_type = so.accepted.checked.says;
  is_script = subst (λ sig. IsScriptText sig third so.inputs.script) (sym so.accepted.checked.agree) so.accepted.is_script;
  answers = so.ends.sequential;
}

of_three : (first second third : Option (List ℕ)) (bytes : List (List ℕ)) (old new : Option (List ℕ)) → AreRead (first ∷ second ∷ third ∷ []) bytes
    → WroteAll command.Run bytes Done old new → WroteAnswers first third old new
of_three first second third (a ∷ b ∷ c ∷ []) old new read wrote =
    (a, c, wrote.0, read.0.tells, read.1.1.0.tells, answers_as_files_say a b c wrote.0 wrote.1, wrote.2)
of_three first second third [] old new read wrote = absurd read
of_three first second third (a ∷ []) old new read wrote = absurd read.1
of_three first second third (a ∷ b ∷ []) old new read wrote = absurd read.1.1
of_three first second third (a ∷ b ∷ c ∷ d ∷ bytes) old new read wrote = absurd read.1.1.1

if_three : (first second third : Option (List ℕ)) (old new : Option (List ℕ)) → IfRead (first ∷ second ∷ third ∷ []) (λ bytes. WroteAll command.Run bytes Done old new)
    → WroteAnswers first third old new
if_three first second third old new it = of_three first second third it.0 old new it.1 it.2

abbrev Asked : Type 0
Asked = Command × List Text

-- the words `run` and three paths, and a call that is done
pub wrote_answers : (holds : List ℕ → Option (List ℕ)) (words : List Text) (first second third : Text) (asked : Asked) (told : List (Option (List ℕ)))
    (files : FilesSeen) (seen : OutputSeen) (status : Status) → words ≡ codes "run" ∷ first ∷ second ∷ third ∷ []
    → ◌≡◌ {A = Option Asked} (Some asked) (request_of words) → files.told ≡ told → told ≡ map holds asked.1 → status ≡ Done → Outcome asked.0 files seen status
    → WroteAnswers (holds first) (holds third) seen.written seen.written_after
wrote_answers holds words first second third asked told files seen status plain is tells holding done ends =
    let run : ◌≡◌ {A = Asked} asked (command.Run, first ∷ second ∷ third ∷ []) =
    run_asked first second third asked (subst (λ (w : List Text). request_of w ≡ Some asked) plain (sym is)) in
    let of_run : Outcome command.Run files seen Done =
    subst (λ (s : Status). Outcome command.Run files seen s) done (subst (λ (it : Asked). Outcome it.0 files seen status) run ends) in
    let all : told ≡ map holds (first ∷ second ∷ third ∷ []) = holding ∙ ap (λ (it : Asked). map holds it.1) run in
    if_three (holds first) (holds second) (holds third) seen.written seen.written_after
    (subst (λ (t : List (Option (List ℕ))). IfRead t (λ bytes. WroteAll command.Run bytes Done seen.written seen.written_after)) (tells ∙ all) of_run)
