use Rattle.std.proofs.Common.{refl}
use Rattle.kat_block.proofs.Places.{number_pushed}
use Rattle.kat_block.proofs.left.numbers_below.Goals as goal

pub loop-i-preserved : goal.loop-i-preserved
loop-i-preserved c = number_pushed c.loop-i.numbers.items c.push.new.self.items c.loop-i.i c.args.count c.loop-i.i c.loop-i-test.true c.loop-i.invariant refl c.in_ok-push.ensures.items
