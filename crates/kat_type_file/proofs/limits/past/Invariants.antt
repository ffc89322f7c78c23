use Rattle.std.proofs.Common.{◌≡◌, drop}
use Rattle.std.specs.List.{flat_map}
use Rattle.kat_judging.specs.Faults.{earlier, fault, first_of}
use Rattle.kat_type_file.proofs.limits.past.Given as goal

abbrev pub invariant-loop-index : goal.invariant-loop-index
invariant-loop-index g l =
    earlier l.first (first_of (flat_map (λ it. fault 9 (g.T.Placed.place it)) (drop l.index l.list))) ≡ first_of (flat_map (λ it. fault 9 (g.T.Placed.place it)) (drop l.limit l.list))
