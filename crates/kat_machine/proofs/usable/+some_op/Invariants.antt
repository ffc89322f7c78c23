use Rattle.std.proofs.Common.{length}
use Rattle.kat_machine.proofs.usable.+some_op.Given as goal

abbrev pub decreases-some_op : goal.decreases-some_op
decreases-some_op l = length l.ops.now
