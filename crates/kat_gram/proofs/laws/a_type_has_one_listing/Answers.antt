use Rattle.kat_gram.proofs.OneListing.{one_listing}
use Rattle.kat_gram.proofs.laws.a_type_has_one_listing.Goals as goal

pub returns : goal.returns
returns c = λ ty n kinds some other a b. one_listing ty n kinds some other a b
