use Rattle.kat_candidate.proofs.PushingParts.{number_pushed}
use Rattle.kat_candidate.proofs.parts.numbers_below.Goals as goal

pub loop-i-preserved : goal.loop-i-preserved
loop-i-preserved c = number_pushed c.loop-i.numbers.items c.push.new.self.items c.loop-i.i c.args.count c.in_ok-n.n c.loop-i-test.true c.loop-i.invariant c.in_ok-n.ensures c.in_ok-push.ensures.items
