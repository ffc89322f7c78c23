use Rattle.kat_decoding.proofs.Closing.{design_back}
use Rattle.kat_decoding.proofs.laws.designs_are_told_by_tokens.Goals as goal

pub returns : goal.returns
returns c = λ x d rules most. design_back x d rules most
