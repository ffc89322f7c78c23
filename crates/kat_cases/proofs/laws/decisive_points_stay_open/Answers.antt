use Rattle.kat_cases.proofs.DecisivePoints.{points_stay_open, points_meet_facts}
use Rattle.kat_cases.proofs.laws.decisive_points_stay_open.Goals as goal

pub returns-clause-open : goal.returns-clause-open
returns-clause-open c = points_stay_open

pub returns-clause-facts : goal.returns-clause-facts
returns-clause-facts c = points_meet_facts
