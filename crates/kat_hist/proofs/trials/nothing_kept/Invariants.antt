use Rattle.std.proofs.Common.{◌≡◌, None}
use Rattle.std.specs.Prelude.{replicate}
use Rattle.kat_hist.proofs.trials.nothing_kept.Given as goal

abbrev pub invariant-loop : goal.invariant-loop
invariant-loop g l = l.kept.items ≡ replicate l.counter None
