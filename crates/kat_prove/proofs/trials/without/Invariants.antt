use Rattle.std.proofs.Common.{◌≡◌, ◌++◌, drop}
use Rattle.kat_prove.specs.Trials.{without}
use Rattle.kat_prove.proofs.trials.without.Given as goal

abbrev pub invariant-loop-n : goal.invariant-loop-n
invariant-loop-n l = l.others.items ++ without l.number (drop l.n-index l.numbers) ≡ without l.number l.numbers
