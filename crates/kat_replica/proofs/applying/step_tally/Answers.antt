use Rattle.kat_design.specs.Denotations.{tally_weight}
use Rattle.kat_design.proofs.Tallies.{adds_is_bumped}
use Rattle.kat_replica.proofs.Rooms.{at_most_as, bumped_as, one_more, sum_roomy, tally_known}
use Rattle.kat_replica.proofs.applying.step_tally.Goals as goal

pub bump_step-requires : goal.bump_step-requires
bump_step-requires c =
    let same = tally_known c.args.effects.now c.args.done.now c.in-Some.leaf.now c.weight.result c.in-Some.ensures c.weight.ensures in
    one_more _ _ (sum_roomy c.args.sums.now c.args.done.now.replica c.requires.room) (at_most_as _ _ same c.requires.light)

pub returns-clause-ok : goal.returns-clause-ok
returns-clause-ok c =
    let same = tally_known c.args.effects.now c.args.done.now c.in-Some.leaf.now c.weight.result c.in-Some.ensures c.weight.ensures in
    bumped_as c.args.sums.now c.bump_step.new.self c.args.done.now.replica c.weight.result (tally_weight c.args.effects.now c.args.done.now) same
    (adds_is_bumped c.args.sums.now c.bump_step.new.self c.args.done.now.replica c.weight.result c.in_ok-step.ensures.back.kept c.in_ok-step.ensures.canonical c.in_ok-step.ensures.ok)
