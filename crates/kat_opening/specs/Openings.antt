-- A design with an open certificate has no accepted file whose relation consists of candidates.
use Rattle.std.specs.Prelude.{ℕ, List, Some}
use Rattle.kat_design.specs.Designs.{DesignForm}
use Rattle.kat_form.specs.Readings.{encoding_of, numbers_of_facts}
use Rattle.kat_refute.specs.Lines.{AreARefutation, Line}
use Rattle.kat_relation.specs.declared.relations.Conjunct.{Conjunct}
use Rattle.kat_cases.specs.Points.{IsDecisive}
use Rattle.kat_type.specs.Lists.{Has}
use Rattle.kat_type.specs.Types.{TypeForm}
use Rattle.kat_vc.specs.Conditions.{Condition, facts_by}
use Rattle.kat_wire.specs.FileForms.{FileForm}
use Rattle.kat_check.specs.Acceptance.{IsAcceptedFile}
use Rattle.kat_candidate.specs.Candidates.{AreCandidates, IsCandidate}
use Rattle.kat_drop.specs.Certificates.{DropForm, IsOpenCertificate, PointForm}
use Rattle.kat_invariant.specs.Accepted.{HaveRefutations}

-- each conjunct of a relation is one of these, in whatever order and however often
abbrev pub ConsistsOf : List Conjunct → List Conjunct → Type 0
ConsistsOf conjuncts relation = (c : Conjunct) → Has relation c → Has conjuncts c

-- If a point decides a condition under some conjuncts, no lines refute the same condition under a relation that consists of
-- these: with fewer facts it fails there too.
abbrev pub SmallerRelationsFail : Type 0
SmallerRelationsFail = (ty : TypeForm) (d : DesignForm) (conjuncts relation : List Conjunct) (condition : Condition) (point : PointForm) → ConsistsOf conjuncts relation
    → IsDecisive (encoding_of (facts_by ty d conjuncts (Some condition))) (numbers_of_facts (facts_by ty d conjuncts (Some condition))) point.den point.nums point.truths
    → (lines : List Line) → AreARefutation (encoding_of (facts_by ty d relation (Some condition))) lines → ⊥

-- If there is an open certificate, it isn't so that each condition of a relation that consists of the candidates is refuted.
abbrev pub OpenDesignsHaveNoProof : Type 0
OpenDesignsHaveNoProof = (ty : TypeForm) (d : DesignForm) (candidates relation : List Conjunct) (drops : List DropForm) (query : ℕ) (point : PointForm) →
    IsOpenCertificate ty d candidates drops query point → ConsistsOf candidates relation → HaveRefutations ty d relation → ⊥

-- So it is for every relation of candidates, if the certificate is over the candidates of the type and the design.
abbrev pub CandidatesHaveNoProof : Type 0
CandidatesHaveNoProof = (ty : TypeForm) (d : DesignForm) (candidates relation : List Conjunct) (drops : List DropForm) (query : ℕ) (point : PointForm) →
    AreCandidates ty d candidates → IsOpenCertificate ty d candidates drops query point → ((c : Conjunct) → Has relation c → IsCandidate ty d c) → HaveRefutations ty d relation → ⊥

-- No file is accepted whose design has an open certificate and whose relation consists of the candidates, whatever its lines are.
abbrev pub OpenDesignsHaveNoFile : Type 0
OpenDesignsHaveNoFile = (ty : TypeForm) (f : FileForm) (candidates : List Conjunct) (drops : List DropForm) (query : ℕ) (point : PointForm) →
    IsOpenCertificate ty f.design candidates drops query point → ConsistsOf candidates f.relation → IsAcceptedFile ty f → ⊥
