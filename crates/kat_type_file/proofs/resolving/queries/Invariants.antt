use Rattle.std.proofs.Common.{◌≡◌, map, take}
use Rattle.kat_type.specs.Types.{query_form}
use Rattle.kat_type_file.specs.Typing.{query_in}
use Rattle.kat_type_file.proofs.resolving.queries.Given as goal

abbrev pub invariant-loop-one : goal.invariant-loop-one
invariant-loop-one l = map query_form l.queries.items ≡ map (query_in l.states) (take l.one-index l.written)
