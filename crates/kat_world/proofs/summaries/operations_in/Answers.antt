use Rattle.kat_world.proofs.Adding.{count_small, counted_on}
use Rattle.kat_world.proofs.summaries.operations_in.Goals as goal

pub counted-count-requires : goal.counted-count-requires
counted-count-requires c = count_small c.args.lines.now c.lines.line-index c.lines.count c.requires c.lines.invariant

pub lines-preserved : goal.lines-preserved
lines-preserved c =
    counted_on c.args.lines.now c.lines.line-index _ c.line-item.result c.lines.count c.counted-count.result c.lines-test.true c.line-item.is c.lines.invariant c.counted-count.ensures
