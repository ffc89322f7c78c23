use Rattle.std.proofs.Common.{◌≡◌, map, take}
use Rattle.kat_judging.specs.Faults.{part_family}
use Rattle.kat_type_file.proofs.ranks.families.Given as goal

abbrev pub invariant-loop-part : goal.invariant-loop-part
invariant-loop-part l = l.families.items ≡ map (part_family l.params) (take l.part-index l.parts)
