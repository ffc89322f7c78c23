use Rattle.std.proofs.Common.{◌+◌, arith}
use Rattle.kat_world.proofs.Stepping.{alike_next}
use Rattle.kat_world.proofs.checkpoints.agreed.Goals as goal

pub loop-at-preserved : goal.loop-at-preserved
loop-at-preserved c =
    alike_next c.args.old.now c.args.new.now c.args.order.now c.loop-at.at (c.loop-at.at + 1) c.index-order-at.result (omega arith) c.loop-at-test.true c.index-order-at.is
    c.loop-at.invariant (c.knows_alike.ensures c.if-not-knows_alike.false)
