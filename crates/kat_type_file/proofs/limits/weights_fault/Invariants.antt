use Rattle.std.proofs.Common.{◌≡◌, drop}
use Rattle.std.specs.List.{flat_map}
use Rattle.kat_judging.specs.Faults.{earlier, first_of, scope_of}
use Rattle.kat_type_file.specs.Limits.{weight_faults}
use Rattle.kat_type_file.proofs.limits.weights_fault.Given as goal

abbrev pub invariant-loop-assignment : goal.invariant-loop-assignment
invariant-loop-assignment l = earlier l.first (first_of (flat_map (weight_faults (scope_of l.states l.params)) (drop l.assignment-index l.assignments))) ≡ first_of (flat_map (weight_faults (scope_of l.states l.params)) l.assignments)
