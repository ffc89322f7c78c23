use Rattle.std.proofs.Common.{drop, map}
use Rattle.serde_json.specs.View.{view}
use Rattle.kat_node.specs.StateForms.{extra_faults}
use Rattle.kat_node.proofs.Judged.{JudgedSoFar}
use Rattle.kat_node.proofs.extra.extra_parts.Given as goal

abbrev pub invariant-loop-i : goal.invariant-loop-i
invariant-loop-i l = JudgedSoFar extra_faults l.count (drop l.count (map view l.values)) l.i (drop l.i (map view l.values))
