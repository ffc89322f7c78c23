use Rattle.std.proofs.Common.{◌≡◌, map, take}
use Rattle.kat_type.specs.Types.{operation_form}
use Rattle.kat_type_file.specs.Typing.{operation_in}
use Rattle.kat_type_file.proofs.resolving.operations.Given as goal

abbrev pub invariant-loop-one : goal.invariant-loop-one
invariant-loop-one l = map operation_form l.operations.items ≡ map (operation_in l.states) (take l.one-index l.written)
