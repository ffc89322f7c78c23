use Rattle.std.proofs.Common.{refl}
use Rattle.kat_world.proofs.Adding.{total_fits, total_on}
use Rattle.kat_world.proofs.summaries.total_of.Goals as goal

pub plus-total-requires : goal.plus-total-requires
plus-total-requires c =
    total_fits c.args.answers.now c.answers.answer-index _ _ c.answers.total c.answers-test.true c.requires.few c.requires.small refl c.answers.invariant

pub answers-preserved : goal.answers-preserved
answers-preserved c =
    total_on c.args.answers.now c.answers.answer-index _ _ c.answers.total c.plus-total.result c.answers-test.true refl c.answers.invariant c.plus-total.ensures
