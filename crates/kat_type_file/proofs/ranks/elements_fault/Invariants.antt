use Rattle.std.proofs.Common.{◌≡◌, drop}
use Rattle.std.specs.List.{flat_map}
use Rattle.kat_judging.specs.Faults.{earlier, first_of, part_faults}
use Rattle.kat_type_file.proofs.ranks.elements_fault.Given as goal

abbrev pub invariant-loop-part : goal.invariant-loop-part
invariant-loop-part l = earlier l.first (first_of (flat_map (part_faults l.params) (drop l.part-index l.parts))) ≡ first_of (flat_map (part_faults l.params) l.parts)
