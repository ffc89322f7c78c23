use Rattle.std.proofs.Common.{rules}
use Rattle.std.specs.List.{flat_map}
use Rattle.kat_judging.specs.Faults.{scope_of}
use Rattle.kat_type_file.specs.Limits.{past_params, weight_faults}
use Rattle.kat_judging.proofs.Firsts.{both_first}
use Rattle.kat_type_file.proofs.limits.operation_limit.Goals as goal

pub returns : goal.returns
returns c =
    both_first (past_params c.args.operation.now.params) (flat_map (weight_faults (scope_of c.args.states.now c.args.operation.now.params)) c.args.operation.now.assignments)
    c.past.result c.weights_fault.result c.earlier.result (search rules) (search rules) c.earlier.ensures
