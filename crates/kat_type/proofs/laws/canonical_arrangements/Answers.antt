use Rattle.kat_type.proofs.Arranging.{order_canonical, one_canonical, respects, sorted_canonical}
use Rattle.kat_type.proofs.laws.canonical_arrangements.Goals as goal

pub returns-clause-some : goal.returns-clause-some
returns-clause-some c = order_canonical

pub returns-clause-one : goal.returns-clause-one
returns-clause-one c = one_canonical

pub returns-clause-respects : goal.returns-clause-respects
returns-clause-respects c = respects

pub returns-clause-sorted : goal.returns-clause-sorted
returns-clause-sorted c = sorted_canonical
