use Rattle.kat_gram.proofs.Resuming.{go_on_alike}
use Rattle.kat_gram.proofs.laws.listings_go_on_alike.Goals as goal

pub returns : goal.returns
returns c = λ ty n kinds some other d a b last also. go_on_alike ty n kinds some other d a b last also
