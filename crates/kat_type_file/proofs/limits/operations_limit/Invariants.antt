use Rattle.std.proofs.Common.{◌≡◌, drop}
use Rattle.std.specs.List.{flat_map}
use Rattle.kat_judging.specs.Faults.{earlier, first_of}
use Rattle.kat_type_file.specs.Limits.{operation_limits}
use Rattle.kat_type_file.proofs.limits.operations_limit.Given as goal

abbrev pub invariant-loop-operation : goal.invariant-loop-operation
invariant-loop-operation l = earlier l.first (first_of (flat_map (operation_limits l.states) (drop l.operation-index l.operations))) ≡ first_of (flat_map (operation_limits l.states) l.operations)
