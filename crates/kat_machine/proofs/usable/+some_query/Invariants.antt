use Rattle.std.proofs.Common.{length}
use Rattle.kat_machine.proofs.usable.+some_query.Given as goal

abbrev pub decreases-some_query : goal.decreases-some_query
decreases-some_query l = length l.queries.now
