use Rattle.kat_candidate.proofs.Determined.{one_candidates}
use Rattle.kat_candidate.proofs.laws.candidates_are_determined.Goals as goal

pub returns : goal.returns
returns c = one_candidates
