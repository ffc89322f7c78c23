-- The lines of a design that answers as a type does, on a judged script with deltas.
use Rattle.std.proofs.Common.{◌≡◌, List, [], ◌∷◌, refl, sym, ap}
use Rattle.kat_num.specs.declared.values.Value.{Value}
use Rattle.kat_design.specs.Answers.{answer_of}
use Rattle.kat_design.specs.Denotations.{denotation_of}
use Rattle.kat_design.specs.Designs.{DesignForm}
use Rattle.kat_script.specs.Facts.{HoldsFronts}
use Rattle.kat_script.specs.Judged.{IsJudgedLine}
use Rattle.kat_script.specs.World.{World, replica_at}
use Rattle.kat_script.specs.declared.script.Line.{Line}
use Rattle.kat_script.specs.declared.script.Line.TheVariants.{Do, Ship, Deliver, Ask, Show}
use Rattle.kat_script.proofs.Worlds.{facts_first}
use Rattle.kat_type.specs.Alike.{FitsType}
use Rattle.kat_type.specs.Lists.{Has}
use Rattle.kat_type.specs.Signatures.{signature_of}
use Rattle.kat_type.specs.Types.{TypeForm}
use Rattle.kat_type.specs.declared.done.Done.{Done}
use Rattle.kat_type.specs.declared.signatures.Signature.{Signature}
use Rattle.kat_world.specs.Answers.{AnswersLine}
use Rattle.kat_world.specs.AsType.{AnswersAsType}
use Rattle.kat_world.specs.Lines.{line_text, shown_by}
use Rattle.kat_world.specs.Texts.{ask_text}
use Rattle.kat_world.proofs.AsTypes.{absorbed_done, fits_on}
use Rattle.kat_world.proofs.Fitting.{query_fits}
use Rattle.kat_world.proofs.Going.{facts_on}
use Rattle.kat_world.proofs.Tracking.{done_with}
use Rattle.kat_delta.specs.Lines.{IsJudgedScript, delta_line_text, delta_lines_of, delta_lines_text}
use Rattle.kat_delta.specs.Sequential.{AnswerDeltasFrom, DeltasAnswerSequentially}
use Rattle.kat_delta.specs.Worlds.{AreJudgedDeltas, DeltaWorld, delta_after, first_delta_world}
use Rattle.kat_delta.specs.declared.script.DeltaLine.{DeltaLine}
use Rattle.kat_delta.specs.declared.script.DeltaLine.TheVariants.{Plain, Delta}
use Rattle.kat_delta.specs.declared.script.DeltaScript.{DeltaScript}
use Rattle.kat_delta.proofs.Worlds.{facts_delta}

-- a line
line_answers : (ty : TypeForm) (d : DesignForm) (past : List Done) (world : World) (line : Line) → signature_of ty ≡ d.sig → AnswersAsType ty d
    → HoldsFronts past world → ((one : Done) → Has past one → FitsType ty one) → IsJudgedLine (signature_of ty) world line
    → AnswersLine ty (shown_by d) world line (line_text d world line)
line_answers ty d past world (Ask r query args) same right f fits fit =
    let asked = query_fits ty query args fit.1 in
    let value : Value = answer_of d (denotation_of d (replica_at world r).absorbed) query args in (
      value,
      right (replica_at world r).absorbed (absorbed_done ty past world r f fits) query asked.0 args asked.1 asked.2,
      ap (λ (sig : Signature). ask_text sig r query args value) (sym same),
    )
line_answers ty d past world (Show r) same right f fits fit = refl
line_answers ty d past world (Do done) same right f fits fit = refl
line_answers ty d past world (Ship r p) same right f fits fit = refl
line_answers ty d past world (Deliver p r) same right f fits fit = refl

-- the lines
deltas_answer : (ty : TypeForm) (d : DesignForm) (past : List Done) (w : DeltaWorld) (lines : List DeltaLine) → signature_of ty ≡ d.sig → AnswersAsType ty d
    → HoldsFronts past w.world → ((one : Done) → Has past one → FitsType ty one) → AreJudgedDeltas (signature_of ty) w lines
    → AnswerDeltasFrom ty (shown_by d) w lines (delta_lines_text d w lines)
deltas_answer ty d past w [] same right f fits judged = refl
deltas_answer ty d past w (Plain line ∷ lines) same right f fits judged = (
  delta_line_text d w (Plain line),
  delta_lines_text d (delta_after w (Plain line)) lines,
  line_answers ty d past w.world line same right f fits judged.0.0,
  deltas_answer ty d (done_with past line) (delta_after w (Plain line)) lines same right (facts_on (signature_of ty) past w.world line f judged.0.0)
      (fits_on ty past w.world line judged.0.0 fits) judged.1,
  refl,
)
deltas_answer ty d past w (Delta r p from ∷ lines) same right f fits judged = (
  [],
  delta_lines_text d (delta_after w (Delta r p from)) lines,
  refl,
  deltas_answer ty d past (delta_after w (Delta r p from)) lines same right (facts_delta past w r p from f) fits judged.1,
  refl,
)

pub delta_design_answers : (ty : TypeForm) (d : DesignForm) (script : DeltaScript) → signature_of ty ≡ d.sig → AnswersAsType ty d → IsJudgedScript (signature_of ty) script
    → DeltasAnswerSequentially ty (shown_by d) script (delta_lines_of d script)
delta_design_answers ty d script same right judged =
    deltas_answer ty d [] (first_delta_world script.replicas) script.lines same right (facts_first script.replicas) (λ one has. absurd has) judged.lines
