use Rattle.std.proofs.Common.{arith}
use Rattle.kat_walk.proofs.MarkLemmas.{counts_all}
use Rattle.kat_walk.proofs.marks.counts_of.Goals as goal

pub returns : goal.returns
returns g c = counts_all c.args.frames.now c.loop-frame.frame-index c.loop-frame.counts.items (omega (arith, c.loop-frame-test.false)) c.loop-frame.invariant
