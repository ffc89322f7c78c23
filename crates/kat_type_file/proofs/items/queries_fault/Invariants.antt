use Rattle.std.proofs.Common.{◌≡◌, drop}
use Rattle.std.specs.List.{flat_map}
use Rattle.kat_judging.specs.Faults.{earlier, first_of, query_faults}
use Rattle.kat_type_file.proofs.items.queries_fault.Given as goal

abbrev pub invariant-loop-query : goal.invariant-loop-query
invariant-loop-query l =
    earlier l.first (first_of (flat_map (query_faults l.states) (drop l.query-index l.queries))) ≡ first_of (flat_map (query_faults l.states) l.queries)
