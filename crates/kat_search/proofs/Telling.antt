-- What is reported of a design that was tried.
use Rattle.std.proofs.Common.{◌≡◌, ℕ, ◌<◌, List, length, Some, refl, sym, ◌∙◌, subst}
use Rattle.std.specs.Prelude.{slice_get}
use Rattle.std.proofs.lemmas.Option.{slice_get_within}
use Rattle.kat_candidate.specs.Candidates.{AreCandidates}
use Rattle.kat_drop.specs.Certificates.{DropForm, IsOpenCertificate, PointForm}
use Rattle.kat_candidate.specs.declared.places.Place1.{Place1}
use Rattle.kat_check.specs.Migration.{migrated_file}
use Rattle.kat_design.specs.Designs.{DesignForm}
use Rattle.kat_hist.specs.Firsts.{IsFirstPlace}
use Rattle.kat_histories.specs.declared.histories.History.{History}
use Rattle.kat_prove.specs.Provings.{GivesUp, IsProved, IsStuck}
use Rattle.kat_relation.specs.declared.relations.Conjunct.{Conjunct}
use Rattle.kat_cases.specs.Nodes.{End}
use Rattle.kat_cases.specs.Nodes.End.{spent, at_point, at_rows, at_wide}
use Rattle.kat_cases.specs.Walks.{Answer}
use Rattle.kat_cases.specs.Walks.Answer.{stopped}
use Rattle.kat_type.specs.Signatures.{signature_of}
use Rattle.kat_type.specs.Types.{TypeForm}
use Rattle.kat_type.specs.declared.signatures.Signature.{Signature}
use Rattle.kat_wire.specs.FileForms.{FileForm}
use Rattle.kat_wire.specs.Printed.{file_text}
use Rattle.kat_wire.specs.declared.causes.Cause.{Cause}
use Rattle.kat_telling.specs.Entries.{AgreesOn, Entry, FirstDiffersAt, histories_for}
use Rattle.kat_telling.specs.Entries.Entry.{again, newly, undecided}
use Rattle.kat_telling.specs.Evidence.{Ending, EndsAtPlace, EndsSo, Evidence, Stands}
use Rattle.kat_telling.specs.Evidence.Ending.{fails, is_long}
use Rattle.kat_search.specs.Findings.{AreNumbers, IsFor, Tells, TellsOf, histories_at}
use Rattle.kat_telling.specs.Reasons.{EndsAt}
use Rattle.kat_telling.specs.declared.limits.TheConstants.{TEXT_LIMIT}
use Rattle.kat_search.specs.declared.findings.Findings.{Findings}
use Rattle.kat_telling.proofs.Accepting.{proved_accepted}
use Rattle.kat_telling.proofs.Standing.{proved_long, stuck_place}

pub tells_again : (ty : TypeForm) (effort : ℕ) (d : DesignForm) (place : ℕ) (t t' : Findings) → IsFor ty t → FirstDiffersAt ty d (histories_at (signature_of ty) t.cited.items) place
    → Tells (again d place) t t' → TellsOf ty effort d t t'
tells_again ty effort d place t t' for first tells = record {
  entry = again d place;
  of_design = refl;
  so = subst (λ (sig : Signature). FirstDiffersAt ty d (histories_at sig t.cited.items) place) (sym for.sig) first;
  tells = tells;
}

pub tells_newly : (ty : TypeForm) (effort : ℕ) (d : DesignForm) (place : ℕ) (history : History) (t t' : Findings) → IsFor ty t → AgreesOn ty d (histories_at (signature_of ty) t.cited.items)
    → slice_get (histories_for ty) place ≡ Some history → FirstDiffersAt ty d (histories_for ty) place → Tells (newly d history) t t' → TellsOf ty effort d t t'
tells_newly ty effort d place history t t' for agrees there first tells = record {
  entry = newly d history;
  of_design = refl;
  so = (subst (λ (sig : Signature). AgreesOn ty d (histories_at sig t.cited.items)) (sym for.sig) agrees, record { place = place; there = there; first = first });
  tells = tells;
}

pub tells_undecided : (ty : TypeForm) (effort : ℕ) (d : DesignForm) (evidence : Evidence) (t t' : Findings) → AgreesOn ty d (histories_for ty) → Stands ty d effort t.passed.items evidence
    → Tells (undecided d evidence) t t' → TellsOf ty effort d t t'
tells_undecided ty effort d evidence t t' agrees stands tells = record { entry = undecided d evidence; of_design = refl; so = (agrees, stands); tells = tells }

-- what is told leaves a search one for its type
pub for_on : (ty : TypeForm) (e : Entry) (t t' : Findings) → IsFor ty t → Tells e t t' → IsFor ty t'
for_on ty e t t' for tells = record {
  sig = tells.sig ∙ for.sig;
  numbers =
      subst (λ (sig : Signature). AreNumbers sig t'.cited.items) for.sig
      (tells.numbers (subst (λ (sig : Signature). AreNumbers sig t.cited.items) (sym for.sig) for.numbers));
}

pub first_within : {X : Type 0} (Fact : X → Type 0) (xs : List X) (place : ℕ) → IsFirstPlace Fact xs (Some place) → place < length xs
first_within Fact xs place first = slice_get_within xs place first.0.0 first.0.1

-- evidence
pub open_stands : (ty : TypeForm) (d : DesignForm) (candidates : List Conjunct) (effort : ℕ) (earlier : List (ℕ × Cause)) (drops : List DropForm) (query : ℕ) (point : PointForm)
    → AreCandidates ty d candidates → IsOpenCertificate ty d candidates drops query point → Stands ty d effort earlier (record { drops = drops; ending = fails query point })
open_stands ty d candidates effort earlier drops query point are is = record { candidates = candidates; are_candidates = are; ends = is }

stopped_same : (a b : End) → stopped a ≡ stopped b → a ≡ b
stopped_same a b h = cc

stuck_ends : (ty : TypeForm) (d : DesignForm) (candidates : List Conjunct) (effort : ℕ) (earlier : List (ℕ × Cause)) (drops : List DropForm) (at : Place1) (end : End) (ending : Ending)
    → EndsAtPlace ty d candidates effort drops at end → GivesUp end → EndsAt at end ending → EndsSo ty d candidates effort earlier drops ending
stuck_ends ty d candidates effort earlier drops at spent ending is up ends = subst (λ (x : Ending). EndsSo ty d candidates effort earlier drops x) (sym ends) is
stuck_ends ty d candidates effort earlier drops at (at_point den nums truths) ending is up ends = absurd ends
stuck_ends ty d candidates effort earlier drops at (at_rows lits plus minus rest) ending is up ends = subst (λ (x : Ending). EndsSo ty d candidates effort earlier drops x) (sym ends) is
stuck_ends ty d candidates effort earlier drops at (at_wide lits left right) ending is up ends =
    subst (λ (x : Ending). EndsSo ty d candidates effort earlier drops x) (sym ends) (is, up.0, up.1)

pub stuck_stands : (ty : TypeForm) (d : DesignForm) (candidates : List Conjunct) (effort : ℕ) (earlier : List (ℕ × Cause)) (drops : List DropForm) (at : Place1) (a b : End) (answer : Answer) (ending : Ending)
    → AreCandidates ty d candidates → answer ≡ stopped a → IsStuck ty d candidates effort drops at a → answer ≡ stopped b → EndsAt at b ending
    → Stands ty d effort earlier (record { drops = drops; ending = ending })
stuck_stands ty d candidates effort earlier drops at a b answer ending are first is second ends =
    let same = stopped_same a b (sym first ∙ second) in
    record {
      candidates = candidates;
      are_candidates = are;
      ends = stuck_ends ty d candidates effort earlier drops at b ending
          (subst (λ (e : End). EndsAtPlace ty d candidates effort drops at e) same (stuck_place ty d candidates effort drops at a is)) (subst GivesUp same is.gives_up) ends;
    }

pub long_stands : (ty : TypeForm) (f : FileForm) (candidates : List Conjunct) (effort : ℕ) (earlier : List (ℕ × Cause)) (drops : List DropForm) (bytes : ℕ)
    → AreCandidates ty f.design candidates → IsProved ty f.design candidates effort drops f.relation f.proof → length (file_text (migrated_file ty f) earlier) ≡ bytes → TEXT_LIMIT < bytes
    → Stands ty f.design effort earlier (record { drops = drops; ending = is_long bytes })
long_stands ty f candidates effort earlier drops bytes are proved counted long = record {
  candidates = candidates;
  are_candidates = are;
  ends = proved_long ty f candidates effort earlier drops bytes proved (proved_accepted ty f candidates effort drops are proved) counted long;
}
