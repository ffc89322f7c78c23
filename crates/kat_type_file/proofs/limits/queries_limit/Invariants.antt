use Rattle.std.proofs.Common.{◌≡◌, drop}
use Rattle.std.specs.List.{flat_map}
use Rattle.kat_judging.specs.Faults.{earlier, first_of}
use Rattle.kat_type_file.specs.Limits.{past_params}
use Rattle.kat_type_file.proofs.limits.queries_limit.Given as goal

abbrev pub invariant-loop-query : goal.invariant-loop-query
invariant-loop-query l = earlier l.first (first_of (flat_map (λ q. past_params q.params) (drop l.query-index l.queries))) ≡ first_of (flat_map (λ q. past_params q.params) l.queries)
