use Rattle.std.proofs.Common.{◌≤◌, length}
use Rattle.kat_cli.proofs.TextLines.{WritesLines}
use Rattle.kat_cli.proofs.printing.write_lines.Given as goal

abbrev pub invariant-lines : goal.invariant-lines
invariant-lines g l = record {
  going : WritesLines l.text l.rest (g.K.Sink.written l.initial.out) (g.K.Sink.written l.out);
  later : g.K.Sink.faults l.initial.out ≤ g.K.Sink.faults l.out;
}

abbrev pub decreases-lines : goal.decreases-lines
decreases-lines g l = length l.rest
