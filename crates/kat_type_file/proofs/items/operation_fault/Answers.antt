use Rattle.std.proofs.Common.{[], rules}
use Rattle.std.specs.List.{flat_map}
use Rattle.kat_judging.specs.Faults.{assignments_faults, colon_of, match_faults, param_faults, part_faults, scope_of}
use Rattle.kat_judging.proofs.Firsts.{four_first}
use Rattle.kat_type_file.proofs.items.operation_fault.Goals as goal

pub returns : goal.returns
returns c =
    four_first (param_faults c.args.states.now c.args.operation.now.params) (flat_map (part_faults c.args.operation.now.params) c.args.operation.now.rank)
    (match_faults c.args.families.now c.args.operation.now.params c.args.operation.now.rank (colon_of c.args.operation.now.assignments))
    (assignments_faults [] (scope_of c.args.states.now c.args.operation.now.params) c.args.operation.now.assignments)
    c.in_ok-named.named c.elements_fault-elements.result c.match_fault-matched.result c.in_ok-assigned.assigned c.earlier.result c.earlier-2.result c.earlier-3.result
    (search rules) (search rules) (search rules) (search rules) c.earlier.ensures c.earlier-2.ensures c.earlier-3.ensures
