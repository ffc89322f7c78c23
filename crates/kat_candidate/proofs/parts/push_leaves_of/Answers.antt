use Rattle.std.proofs.Common.{◌++◌}
use Rattle.kat_candidate.specs.Parts.{leaves_from}
use Rattle.kat_candidate.proofs.PushingParts.{leaf_pushed}
use Rattle.kat_candidate.proofs.parts.push_leaves_of.Goals as goal

pub loop-i-preserved : goal.loop-i-preserved
loop-i-preserved c =
    leaf_pushed c.loop-i.into.items c.push.new.self.items (c.args.into.now.items ++ leaves_from c.args.component 0 c.args.kinds.now) c.args.component c.loop-i.i c.in_ok-leaf.leaf c.args.kinds.now
    c.loop-i-test.true c.loop-i.invariant c.in_ok-leaf.ensures c.in_ok-push.ensures.items
