-- What an accepted design writes on a script.
use Rattle.std.proofs.Common.{◌≡◌, ℕ, List, sym, ◌∙◌, subst}
use Rattle.kat_script.specs.Judged.{IsJudged}
use Rattle.kat_script.specs.Script.{IsScriptText}
use Rattle.kat_script.specs.declared.script.Script.{Script}
use Rattle.kat_script.proofs.Bridge.{scripts_are_judged}
use Rattle.kat_type.specs.Signatures.{signature_of}
use Rattle.kat_type.specs.Types.{TypeForm}
use Rattle.kat_type.specs.declared.signatures.Signature.{Signature}
use Rattle.kat_wire.specs.FileForms.{FileForm}
use Rattle.kat_world.specs.Answers.{AnswersSequentially}
use Rattle.kat_world.specs.Lines.{lines_of, shown_by}
use Rattle.kat_world.proofs.AsTypes.{design_answers, design_models}
use Rattle.kat_embed.specs.Accepting.{AreAccepted}
use Rattle.kat_embed.specs.Running.{IsRunOf}
use Rattle.kat_embed.proofs.Answering.{answers_as_type}

pub ran : (first second third text : List ℕ) (ty : TypeForm) (file : FileForm) (script : Script) → AreAccepted first second ty file → IsScriptText file.design.sig third script
    → text ≡ lines_of file.design script → IsRunOf first second third text
ran first second third text ty file script a is lines =
    let right = answers_as_type first second ty file a in
    let judged : IsJudged (signature_of ty) script =
    subst (λ (sig : Signature). IsJudged sig script) (sym a.texts.agree) (scripts_are_judged file.design.sig third script is) in
    record {
      ty = ty;
      file = file;
      script = script;
      accepted = a;
      is_script = is;
      lines = lines;
      sequential = subst (λ (t : List ℕ). AnswersSequentially ty (shown_by file.design) script t) (sym lines) (design_answers ty file.design script a.texts.agree right judged);
      modelled = λ none. lines ∙ design_models ty file.design script a.texts.agree right judged none;
    }
