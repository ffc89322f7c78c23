-- What `prove` gives is evidence.
use Rattle.std.proofs.Common.{◌≡◌, ℕ, suc, ◌-◌, ◌<◌, ◌≤◌, inl, inr, List, [], ◌∷◌, length, Option, Some, refl, sym, ◌∙◌, ap, subst, arith}
use Rattle.std.specs.Prelude.{slice_get}
use Rattle.kat_candidate.specs.Places.{left_behind}
use Rattle.kat_drop.specs.Certificates.{DropForm, dropped_by}
use Rattle.kat_candidate.specs.declared.places.Place1.{Place1}
use Rattle.kat_check.specs.Acceptance.{IsAcceptedFile}
use Rattle.kat_check.specs.Migration.{migrated_file}
use Rattle.kat_check.proofs.Migrating.{lines_migrated, migrated_accepted}
use Rattle.kat_design.specs.Designs.{DesignForm}
use Rattle.kat_design.specs.Sorted.{EachHas}
use Rattle.kat_form.specs.Facts.{Fact}
use Rattle.kat_form.specs.Readings.{encoding_of}
use Rattle.kat_prove.specs.Provings.{IsOfConjunct, IsProved, IsStuck, lines_at, setting_over}
use Rattle.kat_prove.proofs.Places.{got_has, some_get}
use Rattle.kat_refute.specs.HintedLines.{hinted_lines}
use Rattle.kat_refute.specs.Lines.{Line}
use Rattle.kat_relation.specs.declared.relations.Conjunct.{Conjunct}
use Rattle.kat_cases.specs.Decisions.{AreLinesFor as AreDecided}
use Rattle.kat_cases.specs.Nodes.{End}
use Rattle.kat_cases.specs.Nodes.End.{at_point}
use Rattle.kat_cases.specs.Walks.{WalkGives}
use Rattle.kat_cases.specs.Walks.Answer.{stopped}
use Rattle.kat_type.specs.Lists.{Has}
use Rattle.kat_type.specs.Types.{TypeForm}
use Rattle.kat_vc.specs.Conditions.{Condition, conditions, facts_by, facts_of_condition}
use Rattle.kat_wire.specs.FileForms.{FileForm}
use Rattle.kat_wire.specs.Printed.{file_text}
use Rattle.kat_wire.specs.declared.causes.Cause.{Cause}
use Rattle.kat_telling.specs.Evidence.{AreLinesFor, EndsAtPlace, IsTooLong}
use Rattle.kat_telling.specs.Hinted.{IsHintedFile}
use Rattle.kat_telling.specs.declared.limits.TheConstants.{TEXT_LIMIT}
use Rattle.kat_telling.proofs.Accepting.{left_have}
use Rattle.kat_telling.proofs.Hinting.{file_found, kept_count, kept_once}

has_at : {A : Type 0} (xs : List A) (x : A) → Has xs x → (i : ℕ) × (i < length xs) × (slice_get xs i ≡ Some x)
has_at [] x has = absurd has
has_at (y ∷ ys) x (inl e) = (0, omega arith, ap Some e)
has_at (y ∷ ys) x (inr more) = let r = has_at ys x more in let less = r.1 in (suc r.0, omega (arith, less), r.2)

each_one : {A : Type 0} (P : A → Type 0) (xs : List A) (x : A) → EachHas P xs → Has xs x → P x
each_one P [] x each has = absurd has
each_one P (y ∷ ys) x each (inl e) = subst P e each.0
each_one P (y ∷ ys) x each (inr more) = each_one P ys x each.1 more

-- the condition of the place, and those of conjuncts, by themselves and not by their numbers
pub stuck_place : (ty : TypeForm) (d : DesignForm) (candidates : List Conjunct) (effort : ℕ) (drops : List DropForm) (at : Place1) (end : End)
    → IsStuck ty d candidates effort drops at end → EndsAtPlace ty d candidates effort drops at end
stuck_place ty d candidates effort drops at end s =
    let left = left_behind candidates (dropped_by drops) in
    let positive = s.from_one in
    let most = s.among in
    let c = some_get (conditions ty left) (s.number - 1) (omega (arith, positive, most)) in
    record {
      dropped = s.dropped;
      condition = c.0;
      there = s.placed ∙ c.1;
      among = got_has (conditions ty left) (s.number - 1) c.0 c.1;
      ends = subst (λ (found : Option Condition). WalkGives (setting_over (facts_by ty d left found)) effort (stopped end)) c.1 s.gives;
      no_point = λ other has own den nums truths point.
          let h = has_at (conditions ty left) other has in
          let less = h.1 in
          let back : suc h.0 - 1 ≡ h.0 = omega arith in
          let there : slice_get (conditions ty left) (suc h.0 - 1) ≡ Some other = ap (slice_get (conditions ty left)) back ∙ h.2 in
          s.no_point (suc h.0) (omega arith) (omega (arith, less)) (subst IsOfConjunct (sym there) own) den nums truths
          (subst (λ (found : Option Condition). WalkGives (setting_over (facts_by ty d left found)) effort (stopped (at_point den nums truths))) (sym there) point);
    }

-- lines that are decided, with the hints that are found for them
hinted_decided : (facts : List Fact) (effort : ℕ) (lines : List Line) → AreDecided (setting_over facts) effort lines → AreLinesFor facts effort (hinted_lines (encoding_of facts).clauses lines)
hinted_decided facts effort lines d = record {
  of_walk = λ walked gives. ap (hinted_lines (encoding_of facts).clauses) (d.of_walk walked gives);
  further = λ none. let few = d.further none in
      (subst (λ (n : ℕ). n ≤ effort) (sym (kept_count (encoding_of facts).clauses lines)) few.0, kept_once (encoding_of facts).clauses lines few.1);
}

pub proved_hints : (ty : TypeForm) (f : FileForm) (candidates : List Conjunct) (effort : ℕ) (drops : List DropForm)
    → IsProved ty f.design candidates effort drops f.relation f.proof → IsHintedFile ty (migrated_file ty f)
proved_hints ty f candidates effort drops proved = file_found ty f (λ k above within. (proved.refuted_each k above within).lines_for.no_hints)

pub proved_long : (ty : TypeForm) (f : FileForm) (candidates : List Conjunct) (effort : ℕ) (earlier : List (ℕ × Cause)) (drops : List DropForm) (bytes : ℕ)
    → IsProved ty f.design candidates effort drops f.relation f.proof → IsAcceptedFile ty f → length (file_text (migrated_file ty f) earlier) ≡ bytes → TEXT_LIMIT < bytes
    → IsTooLong ty f.design candidates effort earlier drops bytes
proved_long ty f candidates effort earlier drops bytes proved accepted counted long = record {
  dropped = proved.dropped;
  file = migrated_file ty f;
  version = refl;
  design = refl;
  of_candidates = λ c has. each_one (Has candidates) (left_behind candidates (dropped_by drops)) c (left_have (Has candidates) 0 (dropped_by drops) candidates (λ d own. own))
      (subst (λ (cs : List Conjunct). Has cs c) proved.left has);
  lines = λ k above within. subst (λ (lines : List Line). AreLinesFor (facts_of_condition ty f.design f.relation k) effort lines) (sym (lines_migrated ty f k above))
      (hinted_decided (facts_of_condition ty f.design f.relation k) effort (lines_at f.proof k) (proved.refuted_each k above within).lines_for);
  hints = proved_hints ty f candidates effort drops proved;
  accepted = migrated_accepted ty f accepted;
  counted = counted;
  long = long;
}
