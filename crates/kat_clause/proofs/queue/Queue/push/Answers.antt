use Rattle.std.specs.BinaryHeap.{heap_items}
use Rattle.kat_clause.proofs.QueueSteps.{pushed_numbers}
use Rattle.kat_clause.proofs.queue.Queue.push.Goals as goal

pub returns : goal.returns
returns c = pushed_numbers (heap_items c.self.inside.heap) (heap_items c.push.new.self) (record { 0 = c.args.number }) c.args.self.now c.self.view_is c.in_ok-push.ensures.permutation
