use Rattle.kat_type.proofs.Arranging.{canonical_total, rank_total}
use Rattle.kat_type.proofs.laws.orders_are_total.Goals as goal

pub returns-clause-ranks : goal.returns-clause-ranks
returns-clause-ranks c = rank_total

pub returns-clause-canonical : goal.returns-clause-canonical
returns-clause-canonical c = canonical_total
