use Rattle.kat_candidate.specs.Forms.{sides_form}
use Rattle.kat_candidate.proofs.Pushing.{are_candidates}
use Rattle.kat_candidate.proofs.choosing.candidates.Goals as goal

pub returns : goal.returns
returns c = are_candidates (sides_form (record { ty = c.args.ty; design = c.args.design })) c.from_vec.result c.in_ok-conjuncts.conjuncts.items c.in_ok-conjuncts.ensures c.from_vec.ensures
