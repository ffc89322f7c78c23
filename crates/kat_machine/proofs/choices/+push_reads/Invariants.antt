use Rattle.std.proofs.Common.{length}
use Rattle.kat_machine.proofs.choices.+push_reads.Given as goal

abbrev pub decreases-push_reads : goal.decreases-push_reads
decreases-push_reads l = length l.keys.now
