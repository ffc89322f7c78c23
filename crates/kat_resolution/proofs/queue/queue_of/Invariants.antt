use Rattle.kat_resolution.specs.Queues.{IsQueue}
use Rattle.kat_resolution.proofs.queue.queue_of.Given as goal

abbrev pub invariant-loop-item : goal.invariant-loop-item
invariant-loop-item l = IsQueue l.greatest l.queue
