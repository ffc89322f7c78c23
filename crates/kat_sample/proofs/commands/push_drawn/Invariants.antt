use Rattle.std.proofs.Common.{◌≡◌, ◌++◌, ◌-◌}
use Rattle.std.specs.Prelude.{map}
use Rattle.kat_sample.specs.Commands.{command_of}
use Rattle.kat_sample.specs.Draws.{draws}
use Rattle.kat_sample.proofs.commands.push_drawn.Given as goal

abbrev pub invariant-draws : goal.invariant-draws
invariant-draws l =
    l.all.items ++ map command_of (draws l.x (l.lines - l.counter)) ≡ l.initial.all.items ++ map command_of (draws l.seed l.lines)
