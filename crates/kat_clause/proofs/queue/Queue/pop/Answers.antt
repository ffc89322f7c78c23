use Rattle.std.proofs.Common.{sym, ◌∙◌}
use Rattle.std.specs.BinaryHeap.{heap_items}
use Rattle.kat_clause.proofs.QueueSteps.{popped_numbers, none_numbers}
use Rattle.kat_clause.proofs.queue.Queue.pop.Goals as goal

pub returns-in-Some : goal.returns-in-Some
returns-in-Some c = popped_numbers (heap_items c.self.inside.heap) (heap_items c.pop.new.self) c.in-Some.top c.args.self.now c.self.view_is c.in-Some.ensures.permutation (c.in-Some.ensures.heap_order c.self.invariant).1

pub returns-in-None : goal.returns-in-None
returns-in-None c = none_numbers (heap_items c.self.inside.heap) c.args.self.now c.self.view_is (sym c.self.inside.heap.data.ok.0 ∙ c.in-None.ensures.none)
