-- What is listed are the candidates.
use Rattle.std.proofs.Common.{◌≡◌, List, sym, subst, ◌∙◌}
use Rattle.kat_relation.specs.declared.relations.Conjunct.{Conjunct}
use Rattle.kat_candidate.specs.Candidates.{AreCandidates}
use Rattle.kat_candidate.specs.Forms.{SidesForm}
use Rattle.kat_candidate.specs.Listed.{candidates_of}
use Rattle.kat_candidate.proofs.Members.{listed_are_candidates}

pub are_candidates : (sides : SidesForm) (cs ds : List Conjunct) → ds ≡ candidates_of sides → cs ≡ ds → AreCandidates sides.ty sides.design cs
are_candidates sides cs ds is same = subst (AreCandidates sides.ty sides.design) (sym (same ∙ is)) (listed_are_candidates sides)
