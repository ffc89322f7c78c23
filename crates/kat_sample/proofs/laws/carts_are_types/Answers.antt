use Rattle.kat_sample.proofs.Types.{cart_alike, cart_limited, cart_sorted}
use Rattle.kat_sample.proofs.laws.carts_are_types.Goals as goal

pub returns-clause-sorted : goal.returns-clause-sorted
returns-clause-sorted c = cart_sorted

pub returns-clause-limits : goal.returns-clause-limits
returns-clause-limits c = cart_limited

pub returns-clause-ranks : goal.returns-clause-ranks
returns-clause-ranks c = cart_alike
