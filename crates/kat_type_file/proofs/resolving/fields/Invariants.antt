use Rattle.std.proofs.Common.{◌≡◌, map, take}
use Rattle.kat_type_file.specs.Typing.{field_in}
use Rattle.kat_type_file.proofs.resolving.fields.Given as goal

abbrev pub invariant-loop-state : goal.invariant-loop-state
invariant-loop-state l = l.fields.items ≡ map field_in (take l.state-index l.states)
