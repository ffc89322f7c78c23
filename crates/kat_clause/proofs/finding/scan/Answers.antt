use Rattle.kat_clause.specs.declared.finding.Place.{Place}
use Rattle.kat_clause.proofs.WalkSteps.{place_next, look_next}
use Rattle.kat_clause.proofs.finding.scan.Goals as goal

pub returns-clause-look : goal.returns-clause-look
returns-clause-look c =
    let first = c.next_open-first in
    let second = c.next_other-second in
    let new : Place = record { first = first.result; second = second.result } in
    look_next c.args.marks.now c.args.clause.now new c.look_of.result
    (place_next c.args.marks.now c.args.clause.now c.args.place new c.requires.place first.ensures.passed first.ensures.stops second.ensures.passed)
    first.ensures.stops second.ensures.stops second.ensures.other c.look_of.ensures.falsified c.look_of.ensures.single c.look_of.ensures.several
