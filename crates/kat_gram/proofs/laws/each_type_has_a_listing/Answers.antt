use Rattle.kat_gram.proofs.AllListed.{has_listing}
use Rattle.kat_gram.proofs.laws.each_type_has_a_listing.Goals as goal

pub returns : goal.returns
returns c = λ ty n kinds fits l. has_listing ty n kinds fits l
