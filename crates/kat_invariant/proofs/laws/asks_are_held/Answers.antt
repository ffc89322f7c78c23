use Rattle.kat_invariant.proofs.Held.{asks_held}
use Rattle.kat_invariant.proofs.laws.asks_are_held.Goals as goal

pub returns : goal.returns
returns c = asks_held
