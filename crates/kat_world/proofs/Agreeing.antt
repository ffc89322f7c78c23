-- What is answered in every order that respects the ranks is answered in the canonical one.
use Rattle.std.proofs.Common.{◌≡◌, ℕ, ◌-◌, List, [], ◌∷◌, ◌++◌, ◌∙◌, ap}
use Rattle.kat_num.specs.declared.values.Value.{Value}
use Rattle.kat_script.specs.Facts.{HoldsFronts}
use Rattle.kat_script.specs.Judged.{AreJudged}
use Rattle.kat_script.specs.World.{World, after, replica_at}
use Rattle.kat_script.specs.declared.script.Line.{Line}
use Rattle.kat_script.specs.declared.script.Line.TheVariants.{Do, Ship, Deliver, Ask, Show}
use Rattle.kat_type.specs.Arrangements.{IsCanonical, canonical}
use Rattle.kat_type.specs.Signatures.{signature_of}
use Rattle.kat_type.specs.Types.{TypeForm}
use Rattle.kat_type.specs.declared.done.Done.{Done}
use Rattle.kat_type.proofs.Arranging.{order_canonical, respects}
use Rattle.kat_world.specs.Answers.{AnswerFrom, AnswersLine, nothing_shown}
use Rattle.kat_world.specs.Model.{model_line, model_text}
use Rattle.kat_world.specs.Texts.{ask_text}
use Rattle.kat_world.proofs.Going.{facts_on}
use Rattle.kat_world.proofs.Knowing.{apart_in}
use Rattle.kat_world.proofs.Tracking.{done_with}

one_line : (ty : TypeForm) (past : List Done) (world : World) (line : Line) (text : List ℕ) → HoldsFronts past world → AnswersLine ty nothing_shown world line text → text ≡ model_line ty world line
one_line ty past world (Ask r query args) text f a =
    let here : IsCanonical ty (canonical ty (replica_at world r).absorbed) (replica_at world r).absorbed =
    order_canonical ty (replica_at world r).absorbed (apart_in past world (replica_at world r) f (f.replicas (r - 1))) in
    a.2 ∙ ap (λ (value : Value). ask_text (signature_of ty) r query args value)
    (a.1 (canonical ty (replica_at world r).absorbed) here.arranges (respects ty (canonical ty (replica_at world r).absorbed) (replica_at world r).absorbed here))
one_line ty past world (Do done) text f a = a
one_line ty past world (Ship r p) text f a = a
one_line ty past world (Deliver p r) text f a = a
one_line ty past world (Show r) text f a = a

pub one_text : (ty : TypeForm) (past : List Done) (world : World) (lines : List Line) (text : List ℕ) → HoldsFronts past world → AreJudged (signature_of ty) world lines
    → AnswerFrom ty nothing_shown world lines text → text ≡ model_text ty world lines
one_text ty past world [] text f judged a = a
one_text ty past world (line ∷ lines) text f judged a =
    a.4 ∙ ap (λ (first : List ℕ). first ++ a.1) (one_line ty past world line a.0 f a.2)
    ∙ ap (λ (rest : List ℕ). model_line ty world line ++ rest)
    (one_text ty (done_with past line) (after world line) lines a.1 (facts_on (signature_of ty) past world line f judged.0) judged.1 a.3)
