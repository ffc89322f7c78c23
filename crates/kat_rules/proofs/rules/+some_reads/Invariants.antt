use Rattle.std.proofs.Common.{length}
use Rattle.kat_rules.proofs.rules.+some_reads.Given as goal

abbrev pub decreases-some_reads : goal.decreases-some_reads
decreases-some_reads l = length l.asks.now
