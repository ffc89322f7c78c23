use Rattle.std.proofs.Common.{◌≤◌, drop}
use Rattle.kat_design.specs.Designs.{design_form}
use Rattle.kat_world.specs.Run.{kept}
use Rattle.kat_world.proofs.Ran.{Ran}
use Rattle.kat_world.proofs.converging.converge.Given as goal

abbrev pub invariant-loop-line : goal.invariant-loop-line
invariant-loop-line g l = record {
  ran : Ran (design_form l.design) l.script.replicas l.lines (drop l.line-index l.lines) (kept l.running) (g.K.Sink.written l.initial.out) (g.K.Sink.written l.out);
  later : g.K.Sink.faults l.initial.out ≤ g.K.Sink.faults l.out;
}
