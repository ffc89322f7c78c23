use Rattle.std.proofs.Common.{◌+◌, ◌*◌, drop, map}
use Rattle.serde_json.specs.Data.{depth}
use Rattle.serde_json.specs.View.{view}
use Rattle.kat_node.specs.StateForms.{any_faults}
use Rattle.kat_node.proofs.Judged.{JudgedSoFar}
use Rattle.kat_node.proofs.Nested.{list_depth}
use Rattle.kat_node.proofs.extra.+any.Given as goal

abbrev pub decreases-any : goal.decreases-any
decreases-any l = 2 * depth (view l.value.now)

abbrev pub decreases-list : goal.decreases-list
decreases-list l = 2 * list_depth (map view l.values.now) + 1

abbrev pub invariant-list-loop-i : goal.invariant-list-loop-i
invariant-list-loop-i l = JudgedSoFar any_faults 0 (map view l.values) l.i (drop l.i (map view l.values))
