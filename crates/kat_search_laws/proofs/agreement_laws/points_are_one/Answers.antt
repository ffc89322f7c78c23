use Rattle.kat_search_laws.proofs.PointsForth.{decides}
use Rattle.kat_search_laws.proofs.PointsBack.{decisive}
use Rattle.kat_search_laws.proofs.agreement_laws.points_are_one.Goals as goal

pub returns-clause-forth : goal.returns-clause-forth
returns-clause-forth c = decides

pub returns-clause-back : goal.returns-clause-back
returns-clause-back c = decisive
