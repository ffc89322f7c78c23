use Rattle.std.proofs.Common.{◌≡◌, map, take}
use Rattle.kat_judging.specs.Faults.{scope_of}
use Rattle.kat_type_file.specs.Typing.{rank_in}
use Rattle.kat_type_file.proofs.resolving.ranks.Given as goal

abbrev pub invariant-loop-part : goal.invariant-loop-part
invariant-loop-part l = l.ranks.items ≡ map (rank_in (scope_of l.states l.params)) (take l.part-index l.parts)
