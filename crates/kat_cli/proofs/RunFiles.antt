-- How `run` is refused, and how it ends.
use Rattle.std.proofs.Common.{◌≡◌, ℕ, ◌⊎◌, inl, inr, List, [], ◌∷◌, refl, sym, subst}
use Rattle.kat_check.specs.Acceptance.{IsAcceptedFile, IsFirstFault}
use Rattle.kat_check.proofs.Judged.{file_judged}
use Rattle.kat_script.specs.Judged.{IsJudged}
use Rattle.kat_script.specs.Script.{IsRefused, IsScriptText, TellsRefusal}
use Rattle.kat_script.specs.declared.error.ScriptError.{ScriptError}
use Rattle.kat_script.specs.declared.error.ScriptError.TheVariants as script
use Rattle.kat_script.specs.declared.script.Script.{Script}
use Rattle.kat_script.proofs.Bridge.{scripts_are_judged}
use Rattle.kat_script.proofs.Judging.{every_script_text, refusal_once, script_once, script_or_refused}
use Rattle.kat_type.specs.Signatures.{signature_of}
use Rattle.kat_type.specs.Types.{TypeForm}
use Rattle.kat_type.specs.declared.signatures.Signature.{Signature}
use Rattle.kat_wire.specs.FileForms.{FileForm}
use Rattle.kat_world.specs.Lines.{lines_of}
use Rattle.kat_world.proofs.AsTypes.{design_answers, design_models}
use Rattle.kat_cli.specs.CheckCommand.{IsFileFor}
use Rattle.kat_cli.specs.RunCommand.{Accepts, AreFilesFor, Ends, Inputs, ProofFails}
use Rattle.kat_cli.specs.Ending.{Judges, OutputSeen}
use Rattle.kat_cli.specs.Outcome.{IsEnd}
use Rattle.kat_cli.specs.Refusals.{script_status}
use Rattle.kat_cli.specs.declared.status.Refusal.{Refusal}
use Rattle.kat_cli.specs.declared.status.Status.{Status}
use Rattle.kat_cli.specs.declared.status.Status.TheVariants.{Done}
use Rattle.kat_words.specs.declared.words.Command.TheVariants as command
use Rattle.kat_cli.proofs.AcceptedAnswers.{answers_as_type}
use Rattle.kat_cli.proofs.ScriptsBehind.{AreJudgedOnce}

-- each text is a script or refused, in one way
pub judged_once : AreJudgedOnce Script ScriptError IsScriptText IsRefused
judged_once = record { one_script = script_once; one_refusal = refusal_once; apart = script_or_refused; each = every_script_text }

-- a script that isn't read
pub script_refused : (first second third : List ℕ) (ty : TypeForm) (file : FileForm) (seen : OutputSeen) (error : ScriptError) → IsFileFor first second ty file
    → TellsRefusal file.design.sig third error → seen.written_after ≡ seen.written → Judges command.Run (first ∷ second ∷ third ∷ []) seen (script_status 2 error)
script_refused first second third ty file seen (script.Refused number at) is t same =
    (inl ((ty, is.says), ((ty, file, is), (ty, file, script.Refused number at, is, t, refl))), same)
script_refused first second third ty file seen (script.Line number line) is t same =
    (inl ((ty, is.says), ((ty, file, is), (ty, file, script.Line number line, is, t, refl))), same)
script_refused first second third ty file seen (script.Late line clock) is t same =
    (inl ((ty, is.says), ((ty, file, is), (ty, file, script.Late line clock, is, t, refl))), same)
script_refused first second third ty file seen script.Memory is t same = inl same

-- the headline: what is written has the type's answers
pub ends_run : (first second third : List ℕ) (inputs : Inputs) → AreFilesFor first second third inputs → IsAcceptedFile inputs.ty inputs.file
    → Ends inputs Done (lines_of inputs.file.design inputs.script)
ends_run first second third inputs is accepted =
    let right = answers_as_type first second inputs.ty inputs.file is.checked accepted in
    let judged : IsJudged (signature_of inputs.ty) inputs.script =
    subst (λ (sig : Signature). IsJudged sig inputs.script) (sym is.checked.agree) (scripts_are_judged inputs.file.design.sig third inputs.script is.is_script) in
    record {
      accepted = accepted;
      done = refl;
      lines = refl;
      sequential = design_answers inputs.ty inputs.file.design inputs.script is.checked.agree right judged;
      modelled = λ none. design_models inputs.ty inputs.file.design inputs.script is.checked.agree right judged none;
    }

run_ended_by : (t d s : List ℕ) (inputs : Inputs) → AreFilesFor t d s inputs
    → IsAcceptedFile inputs.ty inputs.file ⊎ ((condition : ℕ) × (line : ℕ) × IsFirstFault inputs.ty inputs.file condition line)
    → ((status : Status) × (text : List ℕ) × IsEnd status × Ends inputs status text)
    ⊎ ((file : ℕ) × (refusal : Refusal) × ⊥)
    ⊎ ((condition : ℕ) × (line : ℕ) × ProofFails inputs condition line)
run_ended_by t d s inputs a (inl accepted) = inl (Done, lines_of inputs.file.design inputs.script, tt, ends_run t d s inputs a accepted)
run_ended_by t d s inputs a (inr fault) = inr (inr fault)

pub run_ended : (texts : List (List ℕ)) (inputs : Inputs) → Accepts texts inputs
    → ((status : Status) × (text : List ℕ) × IsEnd status × Ends inputs status text)
    ⊎ ((file : ℕ) × (refusal : Refusal) × ⊥)
    ⊎ ((condition : ℕ) × (line : ℕ) × ProofFails inputs condition line)
run_ended [] inputs a = absurd a
run_ended (t ∷ []) inputs a = absurd a
run_ended (t ∷ d ∷ []) inputs a = absurd a
run_ended (t ∷ d ∷ s ∷ []) inputs a = run_ended_by t d s inputs a (file_judged inputs.ty inputs.file)
run_ended (t ∷ d ∷ s ∷ u ∷ texts) inputs a = absurd a
