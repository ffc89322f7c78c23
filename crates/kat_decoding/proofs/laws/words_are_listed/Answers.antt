use Rattle.kat_decoding.proofs.Whole.{are_listed}
use Rattle.kat_decoding.proofs.laws.words_are_listed.Goals as goal

pub returns : goal.returns
returns c = λ x n test small tells. are_listed x n test small tells
