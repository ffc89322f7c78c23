use Rattle.std.proofs.Common.{◌≤◌, drop}
use Rattle.kat_type.specs.Types.{type_form}
use Rattle.kat_world.specs.Checkpoints.{AreReached}
use Rattle.kat_world.specs.Seen.{seen}
use Rattle.kat_world.proofs.Going.{Going}
use Rattle.kat_world.proofs.answering.model.Given as goal

abbrev pub invariant-loop-line : goal.invariant-loop-line
invariant-loop-line g l = record {
  going : Going (type_form l.ty) l.script.replicas l.lines (drop l.line-index l.lines) (seen l.holders) (g.K.Sink.written l.initial.out) (g.K.Sink.written l.out);
  later : g.K.Sink.faults l.initial.out ≤ g.K.Sink.faults l.out;
  points : AreReached (type_form l.ty) l.order.items l.points.items;
}
