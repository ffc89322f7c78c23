use Rattle.std.proofs.Common.{◌≡◌, drop}
use Rattle.std.specs.List.{flat_map}
use Rattle.kat_judging.specs.Faults.{earlier, first_families, first_of, operation_faults}
use Rattle.kat_type_file.proofs.items.operations_fault.Given as goal

abbrev pub invariant-loop-operation : goal.invariant-loop-operation
invariant-loop-operation l =
    earlier l.first (first_of (flat_map (operation_faults l.states (first_families l.operations)) (drop l.operation-index l.operations)))
    ≡ first_of (flat_map (operation_faults l.states (first_families l.operations)) l.operations)
