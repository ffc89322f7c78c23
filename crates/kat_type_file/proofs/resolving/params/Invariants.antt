use Rattle.std.proofs.Common.{◌≡◌, map, take}
use Rattle.kat_type_file.specs.Typing.{param_in}
use Rattle.kat_type_file.proofs.resolving.params.Given as goal

abbrev pub invariant-loop-parameter : goal.invariant-loop-parameter
invariant-loop-parameter l = l.params.items ≡ map param_in (take l.parameter-index l.parameters)
