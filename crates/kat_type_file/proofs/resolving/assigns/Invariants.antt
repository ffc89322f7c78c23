use Rattle.std.proofs.Common.{◌≡◌, map, take}
use Rattle.kat_type.specs.Types.{assigned_by}
use Rattle.kat_judging.specs.Faults.{scope_of}
use Rattle.kat_type_file.specs.Typing.{assigned_in}
use Rattle.kat_type_file.proofs.resolving.assigns.Given as goal

abbrev pub invariant-loop-assignment : goal.invariant-loop-assignment
invariant-loop-assignment l = map assigned_by l.assigns.items ≡ map (assigned_in (scope_of l.states l.params)) (take l.assignment-index l.assignments)
