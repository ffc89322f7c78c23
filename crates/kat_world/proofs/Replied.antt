-- What was answered while the lines of a design ran.
use Rattle.std.proofs.Common.{◌≡◌, ℕ, ◌+◌, ◌-◌, ◌≤◌, List, [], ◌∷◌, ◌++◌, length, refl, sym, ◌∙◌, ap, subst, append_assoc, append-nil}
use Rattle.kat_design.specs.Answers.{answer_of}
use Rattle.kat_design.specs.Designs.{DesignForm}
use Rattle.kat_num.specs.declared.values.Value.{Value}
use Rattle.kat_replica.specs.declared.replicas.Replica.{Replica}
use Rattle.kat_script.specs.Facts.{HoldsFronts}
use Rattle.kat_script.specs.Judged.{AreJudged, IsJudged, IsJudgedLine}
use Rattle.kat_script.specs.World.{World, after, first_world, replica_at}
use Rattle.kat_script.specs.declared.script.Line.{Line}
use Rattle.kat_script.specs.declared.script.Line.TheVariants.{Do, Ship, Deliver, Ask, Show}
use Rattle.kat_script.specs.declared.script.Script.{Script}
use Rattle.kat_script.proofs.Worlds.{facts_first}
use Rattle.kat_type.specs.Alike.{FitsType}
use Rattle.kat_type.specs.Arrangements.{IsCanonical, canonical}
use Rattle.kat_type.specs.Lists.{Has}
use Rattle.kat_type.specs.Signatures.{signature_of}
use Rattle.kat_type.specs.Types.{TypeForm}
use Rattle.kat_type.specs.declared.done.Done.{Done}
use Rattle.kat_type.proofs.Arranging.{order_canonical, respects}
use Rattle.kat_world.specs.AsType.{AnswersAsType}
use Rattle.kat_world.specs.Kept.{IsReady, Keeps, first_keeps, kept_after, kept_answers, kept_world}
use Rattle.kat_world.specs.Replies.{answers_from, answers_of, line_answers, model_answers, model_answers_from, model_line_answers}
use Rattle.kat_world.proofs.AsTypes.{absorbed_done, fits_on}
use Rattle.kat_world.proofs.Fitting.{query_fits}
use Rattle.kat_world.proofs.Going.{facts_on}
use Rattle.kat_world.proofs.Keeping.{Lawful, kept_first, kept_line, ready_line, replica_kept}
use Rattle.kat_world.proofs.Knowing.{apart_in}
use Rattle.kat_world.proofs.Ran.{few_before, few_lines, few_on}
use Rattle.kat_world.proofs.Standing.{Stands, stands_first, stands_on}
use Rattle.kat_world.proofs.Tracking.{done_with}

-- the lines before the ones that are left ran: these are the answers that they were given, and what is kept is what the world has
pub record Replied (d : DesignForm) (n : ℕ) (lines left : List Line) (k : Keeps) (answers : List Value) : Type 0 where
  pub world : World
  pub past : List Done
  pub stands : Stands d.sig past world
  pub few : length past + length left ≤ 100_000
  pub judged : AreJudged d.sig world left
  pub kept : k ≡ kept_world d world
  pub all : answers ++ answers_from d world left ≡ answers_from d (first_world n) lines

pub replied_none : (d : DesignForm) (script : Script) (lines : List Line) (k : Keeps) → IsJudged d.sig script → lines ≡ script.lines
    → k ≡ first_keeps d script.replicas → Replied d script.replicas lines lines k []
replied_none d script lines k judged same e =
    subst (λ (ls : List Line). Replied d script.replicas ls ls k []) (sym same) (record {
      world = first_world script.replicas;
      past = [];
      stands = stands_first d.sig script.replicas judged.few_replicas;
      few = few_lines (length script.lines) judged.few_lines;
      judged = judged.lines;
      kept = e ∙ kept_first d script.replicas;
      all = refl;
    })

-- what a line is answered is what it must be answered
kept_replies : (d : DesignForm) (world : World) (line : Line) → IsJudgedLine d.sig world line
    → kept_answers d (kept_world d world) line ≡ line_answers d world line
kept_replies d world (Ask r query args) judged =
    ap (λ (one : Replica). answer_of d one.state.parts query args ∷ []) (replica_kept d world r judged.0)
kept_replies d world (Show r) judged = refl
kept_replies d world (Do done) judged = refl
kept_replies d world (Ship r p) judged = refl
kept_replies d world (Deliver p r) judged = refl

at_next : (d : DesignForm) (n : ℕ) (lines left rest : List Line) (line : Line) (k : Keeps) (answers : List Value)
    → Replied d n lines left k answers → left ≡ line ∷ rest → Replied d n lines (line ∷ rest) k answers
at_next d n lines left rest line k answers before is = subst (λ (ls : List Line). Replied d n lines ls k answers) is before

ready_there : (d : DesignForm) (n : ℕ) (lines rest : List Line) (line : Line) (k : Keeps) (answers : List Value) → Lawful d
    → Replied d n lines (line ∷ rest) k answers → IsReady d k line
ready_there d n lines rest line k answers laws it =
    subst (λ (kept : Keeps). IsReady d kept line) (sym it.kept)
    (ready_line d it.past it.world line laws it.stands (few_before (length it.past) (length (line ∷ rest)) it.few) it.judged.0)

pub ready_reply : (d : DesignForm) (n : ℕ) (lines left rest : List Line) (line : Line) (k : Keeps) (answers : List Value) → Lawful d
    → Replied d n lines left k answers → left ≡ line ∷ rest → IsReady d k line
ready_reply d n lines left rest line k answers laws before is =
    ready_there d n lines rest line k answers laws (at_next d n lines left rest line k answers before is)

replied_there : (d : DesignForm) (n : ℕ) (lines rest : List Line) (line : Line) (k l : Keeps) (answers more : List Value) → Lawful d
    → Replied d n lines (line ∷ rest) k answers → l ≡ kept_after d k line → more ≡ answers ++ kept_answers d k line
    → Replied d n lines rest l more
replied_there d n lines rest line k l answers more laws it follows answered = record {
  world = after it.world line;
  past = done_with it.past line;
  stands = stands_on d.sig it.past it.world line it.stands it.judged.0;
  few = few_on it.past line rest it.few;
  judged = it.judged.1;
  kept = follows ∙ ap (λ (kept : Keeps). kept_after d kept line) it.kept ∙ kept_line d it.past it.world line laws it.stands it.judged.0;
  all =
      ap (λ (vs : List Value). vs ++ answers_from d (after it.world line) rest)
      (answered ∙ ap (λ (kept : Keeps). answers ++ kept_answers d kept line) it.kept
      ∙ ap (λ (vs : List Value). answers ++ vs) (kept_replies d it.world line it.judged.0))
      ∙ append_assoc answers (line_answers d it.world line) (answers_from d (after it.world line) rest)
      ∙ it.all;
}

-- one line more
pub replied_next : (d : DesignForm) (n : ℕ) (lines left rest : List Line) (line : Line) (k l : Keeps) (answers more : List Value) → Lawful d
    → Replied d n lines left k answers → left ≡ line ∷ rest → l ≡ kept_after d k line → more ≡ answers ++ kept_answers d k line
    → Replied d n lines rest l more
replied_next d n lines left rest line k l answers more laws before is follows answered =
    replied_there d n lines rest line k l answers more laws (at_next d n lines left rest line k answers before is) follows answered

-- all lines ran
pub replied_all : (d : DesignForm) (n : ℕ) (lines left : List Line) (k : Keeps) (answers : List Value) → Replied d n lines left k answers → left ≡ []
    → answers ≡ answers_from d (first_world n) lines
replied_all d n lines left k answers it none =
    sym (append-nil answers) ∙ ap (λ (ls : List Line). answers ++ answers_from d it.world ls) (sym none) ∙ it.all

-- if a design answers as a type does, a line is answered as by the type
same_reply : (ty : TypeForm) (d : DesignForm) (past : List Done) (world : World) (line : Line) → AnswersAsType ty d
    → HoldsFronts past world → ((one : Done) → Has past one → FitsType ty one) → IsJudgedLine (signature_of ty) world line
    → line_answers d world line ≡ model_line_answers ty world line
same_reply ty d past world (Ask r query args) right f fits fit =
    let asked = query_fits ty query args fit.1 in
    let ones : List Done = (replica_at world r).absorbed in
    let here : IsCanonical ty (canonical ty ones) ones = order_canonical ty ones (apart_in past world (replica_at world r) f (f.replicas (r - 1))) in
    ap (λ (value : Value). value ∷ [])
    (right ones (absorbed_done ty past world r f fits) query asked.0 args asked.1 asked.2
    (canonical ty ones) here.arranges (respects ty (canonical ty ones) ones here))
same_reply ty d past world (Show r) right f fits fit = refl
same_reply ty d past world (Do done) right f fits fit = refl
same_reply ty d past world (Ship r p) right f fits fit = refl
same_reply ty d past world (Deliver p r) right f fits fit = refl

same_replies : (ty : TypeForm) (d : DesignForm) (past : List Done) (world : World) (lines : List Line) → AnswersAsType ty d
    → HoldsFronts past world → ((one : Done) → Has past one → FitsType ty one) → AreJudged (signature_of ty) world lines
    → answers_from d world lines ≡ model_answers_from ty world lines
same_replies ty d past world [] right f fits judged = refl
same_replies ty d past world (line ∷ lines) right f fits judged =
    ap (λ (vs : List Value). vs ++ answers_from d (after world line) lines) (same_reply ty d past world line right f fits judged.0)
    ∙ ap (λ (vs : List Value). model_line_answers ty world line ++ vs)
    (same_replies ty d (done_with past line) (after world line) lines right (facts_on (signature_of ty) past world line f judged.0)
    (fits_on ty past world line judged.0 fits) judged.1)

pub design_replies : (ty : TypeForm) (d : DesignForm) (script : Script) → AnswersAsType ty d → IsJudged (signature_of ty) script
    → answers_of d script ≡ model_answers ty script
design_replies ty d script right judged =
    same_replies ty d [] (first_world script.replicas) script.lines right (facts_first script.replicas) (λ one has. absurd has) judged.lines
