use Rattle.kat_clause.proofs.WalkSteps.{place_put}
use Rattle.kat_clause.proofs.finding.keep_place.Goals as goal

pub returns : goal.returns
returns c = place_put c.args.number c.args.place c.args.places.now c.insert.new.self (λ i. c.in_ok-insert.ensures.updates.0 i)
