use Rattle.std.proofs.Common.{◌≡◌, [], drop}
use Rattle.kat_judging.specs.Faults.{assignments_faults, earlier, first_of, scope_of}
use Rattle.kat_judging.proofs.items.assignments_fault.Given as goal

abbrev pub invariant-loop-assignment : goal.invariant-loop-assignment
invariant-loop-assignment l =
    earlier l.first (first_of (assignments_faults l.before.items (scope_of l.states l.params) (drop l.assignment-index l.assignments)))
    ≡ first_of (assignments_faults [] (scope_of l.states l.params) l.assignments)
