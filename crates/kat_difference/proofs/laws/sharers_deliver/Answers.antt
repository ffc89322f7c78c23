use Rattle.kat_difference.proofs.Standing.{sharers_deliver}
use Rattle.kat_difference.proofs.laws.sharers_deliver.Goals as goal

pub returns : goal.returns
returns c = sharers_deliver c.differences_unite.ensures
