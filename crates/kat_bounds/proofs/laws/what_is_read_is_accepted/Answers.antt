use Rattle.kat_bounds.proofs.Sizes.{what_is_read_is_accepted}
use Rattle.kat_bounds.proofs.laws.what_is_read_is_accepted.Goals as goal

pub returns : goal.returns
returns c = what_is_read_is_accepted
