-- The lines of a design that answers as a type does, on a judged script.
use Rattle.std.proofs.Common.{◌≡◌, ℕ, ◌-◌, inl, inr, ⊎_elim, List, [], ◌∷◌, refl, sym, ap, subst}
use Rattle.kat_design.specs.Answers.{answer_of}
use Rattle.kat_design.specs.Denotations.{denotation_of}
use Rattle.kat_design.specs.Designs.{DesignForm}
use Rattle.kat_num.specs.declared.values.Value.{Value}
use Rattle.kat_script.specs.Facts.{HoldsFronts}
use Rattle.kat_script.specs.Judged.{AreJudged, IsJudged, IsJudgedLine}
use Rattle.kat_script.specs.World.{World, after, first_world, replica_at}
use Rattle.kat_script.specs.declared.script.Line.{Line}
use Rattle.kat_script.specs.declared.script.Line.TheVariants.{Do, Ship, Deliver, Ask, Show}
use Rattle.kat_script.specs.declared.script.Script.{Script}
use Rattle.kat_script.proofs.Worlds.{facts_first}
use Rattle.kat_type.specs.Alike.{FitsType}
use Rattle.kat_type.specs.Lists.{Has}
use Rattle.kat_type.specs.Signatures.{signature_of}
use Rattle.kat_type.specs.Types.{TypeForm}
use Rattle.kat_type.specs.declared.done.Done.{Done}
use Rattle.kat_type.specs.declared.signatures.Signature.{Signature}
use Rattle.kat_type.proofs.Lists.{has_either}
use Rattle.kat_seq.specs.Operations.{CanBeDone}
use Rattle.kat_world.specs.AsType.{AnswersAsType, ShowsNothing}
use Rattle.kat_world.specs.Answers.{AnswerFrom, AnswersLine, AnswersSequentially, nothing_shown}
use Rattle.kat_world.specs.Lines.{line_text, lines_of, lines_text, shown_by}
use Rattle.kat_world.specs.Model.{model_lines}
use Rattle.kat_world.specs.Texts.{ask_text}
use Rattle.kat_world.proofs.Agreeing.{one_text}
use Rattle.kat_world.proofs.Fitting.{op_fits, query_fits}
use Rattle.kat_world.proofs.Going.{facts_on}
use Rattle.kat_world.proofs.Knowing.{apart_in}
use Rattle.kat_world.proofs.Tracking.{done_with}

-- what a replica of a judged world absorbed can have been done
pub absorbed_done : (ty : TypeForm) (past : List Done) (world : World) (r : ℕ) → HoldsFronts past world → ((one : Done) → Has past one → FitsType ty one)
    → CanBeDone ty (replica_at world r).absorbed
absorbed_done ty past world r f fits = record {
  fit = λ one has. fits one ((f.replicas (r - 1)).was_done one has);
  timed = λ one has. f.timed one ((f.replicas (r - 1)).was_done one has);
  numbered = λ one has. (f.placed one ((f.replicas (r - 1)).was_done one has)).0;
  apart = apart_in past world (replica_at world r) f (f.replicas (r - 1));
  once = (f.replicas (r - 1)).once;
}

-- what was done fits the type, with one line more
pub fits_on : (ty : TypeForm) (past : List Done) (world : World) (line : Line) → IsJudgedLine (signature_of ty) world line → ((one : Done) → Has past one → FitsType ty one)
    → (one : Done) → Has (done_with past line) one → FitsType ty one
fits_on ty past world (Do done) fit fits one has = ⊎_elim
    (fits one)
    (λ (new : Has (done ∷ []) one). ⊎_elim (λ (is : done ≡ one). subst (λ (d : Done). FitsType ty d) is (op_fits ty done fit.3)) (λ (none : ⊥). absurd none) new)
    (has_either past (done ∷ []) one has)
fits_on ty past world (Ship r p) fit fits one has = fits one has
fits_on ty past world (Deliver p r) fit fits one has = fits one has
fits_on ty past world (Ask r query args) fit fits one has = fits one has
fits_on ty past world (Show r) fit fits one has = fits one has

line_answers : (ty : TypeForm) (d : DesignForm) (past : List Done) (world : World) (line : Line) → signature_of ty ≡ d.sig → AnswersAsType ty d
    → HoldsFronts past world → ((one : Done) → Has past one → FitsType ty one) → IsJudgedLine (signature_of ty) world line
    → AnswersLine ty (shown_by d) world line (line_text d world line)
line_answers ty d past world (Ask r query args) same right f fits fit =
    let asked = query_fits ty query args fit.1 in
    let value : Value = answer_of d (denotation_of d (replica_at world r).absorbed) query args in (
      value,
      right (replica_at world r).absorbed (absorbed_done ty past world r f fits) query asked.0 args asked.1 asked.2,
      ap (λ (sig : Signature). ask_text sig r query args value) (sym same),
    )
line_answers ty d past world (Show r) same right f fits fit = refl
line_answers ty d past world (Do done) same right f fits fit = refl
line_answers ty d past world (Ship r p) same right f fits fit = refl
line_answers ty d past world (Deliver p r) same right f fits fit = refl

lines_answer : (ty : TypeForm) (d : DesignForm) (past : List Done) (world : World) (lines : List Line) → signature_of ty ≡ d.sig → AnswersAsType ty d
    → HoldsFronts past world → ((one : Done) → Has past one → FitsType ty one) → AreJudged (signature_of ty) world lines
    → AnswerFrom ty (shown_by d) world lines (lines_text d world lines)
lines_answer ty d past world [] same right f fits judged = refl
lines_answer ty d past world (line ∷ lines) same right f fits judged = (
  line_text d world line,
  lines_text d (after world line) lines,
  line_answers ty d past world line same right f fits judged.0,
  lines_answer ty d (done_with past line) (after world line) lines same right (facts_on (signature_of ty) past world line f judged.0)
      (fits_on ty past world line judged.0 fits) judged.1,
  refl,
)

pub design_answers : (ty : TypeForm) (d : DesignForm) (script : Script) → signature_of ty ≡ d.sig → AnswersAsType ty d → IsJudged (signature_of ty) script
    → AnswersSequentially ty (shown_by d) script (lines_of d script)
design_answers ty d script same right judged =
    lines_answer ty d [] (first_world script.replicas) script.lines same right (facts_first script.replicas) (λ one has. absurd has) judged.lines

-- if no line is a show, nothing is shown
line_unshown : (ty : TypeForm) (shown : World → ℕ → List ℕ) (world : World) (line : Line) (text : List ℕ) → ((r : ℕ) → line ≡ Show r → ⊥)
    → AnswersLine ty shown world line text → AnswersLine ty nothing_shown world line text
line_unshown ty shown world (Ask r query args) text none a = a
line_unshown ty shown world (Show r) text none a = absurd (none r refl)
line_unshown ty shown world (Do done) text none a = a
line_unshown ty shown world (Ship r p) text none a = a
line_unshown ty shown world (Deliver p r) text none a = a

unshown : (ty : TypeForm) (shown : World → ℕ → List ℕ) (world : World) (lines : List Line) (text : List ℕ) → ((r : ℕ) → Has lines (Show r) → ⊥)
    → AnswerFrom ty shown world lines text → AnswerFrom ty nothing_shown world lines text
unshown ty shown world [] text none a = a
unshown ty shown world (line ∷ lines) text none a =
    (a.0, a.1, line_unshown ty shown world line a.0 (λ r is. none r (inl is)) a.2, unshown ty shown (after world line) lines a.1 (λ r has. none r (inr has)) a.3, a.4)

pub design_models : (ty : TypeForm) (d : DesignForm) (script : Script) → signature_of ty ≡ d.sig → AnswersAsType ty d → IsJudged (signature_of ty) script
    → ShowsNothing script → lines_of d script ≡ model_lines ty script
design_models ty d script same right judged none =
    one_text ty [] (first_world script.replicas) script.lines (lines_of d script) (facts_first script.replicas) judged.lines
    (unshown ty (shown_by d) (first_world script.replicas) script.lines (lines_of d script) none (design_answers ty d script same right judged))
