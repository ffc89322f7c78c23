use Rattle.std.proofs.Common.{◌≡◌}
use Rattle.kat_histories.specs.Groups.{ways}
use Rattle.kat_histories.proofs.groups.ways.Given as goal

abbrev pub invariant-loop : goal.invariant-loop
invariant-loop l = l.ways ≡ ways l.calls l.counter
