use Rattle.std.proofs.Common.{◌≡◌}
use Rattle.kat_trying.proofs.trying.is_cited.Given as goal

abbrev pub invariant-citing : goal.invariant-citing
invariant-citing l = l.trials ≡ l.fn.trials
