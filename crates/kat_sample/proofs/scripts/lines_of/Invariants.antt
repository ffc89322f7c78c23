use Rattle.std.proofs.Common.{drop}
use Rattle.kat_sample.specs.Clocks.{kept}
use Rattle.kat_sample.proofs.Timing.{Makes}
use Rattle.kat_sample.proofs.scripts.lines_of.Given as goal

abbrev pub invariant-commands : goal.invariant-commands
invariant-commands l = Makes l.commands (drop l.command-index l.commands) l.lines.items (kept l.clocks) l.command-index
