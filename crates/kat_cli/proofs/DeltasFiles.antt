-- How `deltas` is refused, and how it ends.
use Rattle.std.proofs.Common.{◌≡◌, ℕ, ◌⊎◌, inl, inr, List, [], ◌∷◌, refl, sym, subst}
use Rattle.kat_check.specs.Acceptance.{IsAcceptedFile, IsFirstFault}
use Rattle.kat_check.proofs.Judged.{file_judged}
use Rattle.kat_delta.specs.Lines.{IsJudgedScript, delta_lines_of}
use Rattle.kat_delta.specs.declared.script.DeltaScript.{DeltaScript}
use Rattle.kat_delta.proofs.Sequence.{delta_design_answers}
use Rattle.kat_delta_script.specs.Scripts.{IsDeltaRefused, IsDeltaScriptText, TellsDeltaRefusal}
use Rattle.kat_delta_script.specs.declared.error.DeltaScriptError.{DeltaScriptError}
use Rattle.kat_delta_script.specs.declared.error.DeltaScriptError.TheVariants as deltas
use Rattle.kat_delta_script.proofs.Bridging.{delta_scripts_are_judged}
use Rattle.kat_delta_script.proofs.Judging.{every_delta_text, refusal_once, script_once, script_or_refused}
use Rattle.kat_script.specs.declared.error.ScriptError.TheVariants as script
use Rattle.kat_type.specs.Signatures.{signature_of}
use Rattle.kat_type.specs.Types.{TypeForm}
use Rattle.kat_type.specs.declared.signatures.Signature.{Signature}
use Rattle.kat_wire.specs.FileForms.{FileForm}
use Rattle.kat_cli.specs.CheckCommand.{IsFileFor}
use Rattle.kat_cli.specs.DeltasCommand.{Accepts, AreFilesFor, Ends, Inputs, ProofFails}
use Rattle.kat_cli.specs.Ending.{Judges, OutputSeen}
use Rattle.kat_cli.specs.Outcome.{IsEnd, Refuses}
use Rattle.kat_cli.specs.Refusals.{delta_refusal, delta_status}
use Rattle.kat_cli.specs.declared.status.Refusal.{Refusal}
use Rattle.kat_cli.specs.declared.status.Status.{Status}
use Rattle.kat_cli.specs.declared.status.Status.TheVariants.{Done}
use Rattle.kat_words.specs.declared.words.Command.TheVariants as command
use Rattle.kat_cli.proofs.AcceptedAnswers.{answers_as_type}
use Rattle.kat_cli.proofs.ScriptsBehind.{AreJudgedOnce}

-- each text is a script with deltas or refused, in one way
pub judged_once : AreJudgedOnce DeltaScript DeltaScriptError IsDeltaScriptText IsDeltaRefused
judged_once = record { one_script = script_once; one_refusal = refusal_once; apart = script_or_refused; each = every_delta_text }

-- a script that isn't read
third_refused : (first second third : List ℕ) (ty : TypeForm) (file : FileForm) (error : DeltaScriptError) → IsFileFor first second ty file
    → IsDeltaRefused file.design.sig third error → Refuses command.Deltas [] (first ∷ second ∷ third ∷ []) 2 (delta_refusal error)
third_refused first second third ty file error is refused = ((ty, is.says), ((ty, file, is), (ty, file, error, is, refused, refl)))

pub script_refused : (first second third : List ℕ) (ty : TypeForm) (file : FileForm) (seen : OutputSeen) (error : DeltaScriptError) → IsFileFor first second ty file
    → TellsDeltaRefusal file.design.sig third error → seen.written_after ≡ seen.written → Judges command.Deltas (first ∷ second ∷ third ∷ []) seen (delta_status 2 error)
script_refused first second third ty file seen (deltas.Script (script.Refused number at)) is t same =
    (inl (third_refused first second third ty file (deltas.Script (script.Refused number at)) is t), same)
script_refused first second third ty file seen (deltas.Script (script.Line number line)) is t same =
    (inl (third_refused first second third ty file (deltas.Script (script.Line number line)) is t), same)
script_refused first second third ty file seen (deltas.Script (script.Late line clock)) is t same =
    (inl (third_refused first second third ty file (deltas.Script (script.Late line clock)) is t), same)
script_refused first second third ty file seen (deltas.Script script.Memory) is t same = inl same
script_refused first second third ty file seen (deltas.NoCount line) is t same = (inl (third_refused first second third ty file (deltas.NoCount line) is t), same)
script_refused first second third ty file seen (deltas.Gap line origin have need) is t same =
    (inl (third_refused first second third ty file (deltas.Gap line origin have need) is t), same)

-- what is written has the type's answers
pub ends_deltas : (first second third : List ℕ) (inputs : Inputs) → AreFilesFor first second third inputs → IsAcceptedFile inputs.ty inputs.file
    → Ends inputs Done (delta_lines_of inputs.file.design inputs.script)
ends_deltas first second third inputs is accepted =
    let right = answers_as_type first second inputs.ty inputs.file is.checked accepted in
    let judged : IsJudgedScript (signature_of inputs.ty) inputs.script =
    subst (λ (sig : Signature). IsJudgedScript sig inputs.script) (sym is.checked.agree) (delta_scripts_are_judged inputs.file.design.sig third inputs.script is.is_script) in
    record {
      accepted = accepted;
      done = refl;
      lines = refl;
      sequential = delta_design_answers inputs.ty inputs.file.design inputs.script is.checked.agree right judged;
    }

deltas_ended_by : (t d s : List ℕ) (inputs : Inputs) → AreFilesFor t d s inputs
    → IsAcceptedFile inputs.ty inputs.file ⊎ ((condition : ℕ) × (line : ℕ) × IsFirstFault inputs.ty inputs.file condition line)
    → ((status : Status) × (text : List ℕ) × IsEnd status × Ends inputs status text)
    ⊎ ((file : ℕ) × (refusal : Refusal) × ⊥)
    ⊎ ((condition : ℕ) × (line : ℕ) × ProofFails inputs condition line)
deltas_ended_by t d s inputs a (inl accepted) = inl (Done, delta_lines_of inputs.file.design inputs.script, tt, ends_deltas t d s inputs a accepted)
deltas_ended_by t d s inputs a (inr fault) = inr (inr fault)

pub deltas_ended : (texts : List (List ℕ)) (inputs : Inputs) → Accepts texts inputs
    → ((status : Status) × (text : List ℕ) × IsEnd status × Ends inputs status text)
    ⊎ ((file : ℕ) × (refusal : Refusal) × ⊥)
    ⊎ ((condition : ℕ) × (line : ℕ) × ProofFails inputs condition line)
deltas_ended [] inputs a = absurd a
deltas_ended (t ∷ []) inputs a = absurd a
deltas_ended (t ∷ d ∷ []) inputs a = absurd a
deltas_ended (t ∷ d ∷ s ∷ []) inputs a = deltas_ended_by t d s inputs a (file_judged inputs.ty inputs.file)
deltas_ended (t ∷ d ∷ s ∷ u ∷ texts) inputs a = absurd a
