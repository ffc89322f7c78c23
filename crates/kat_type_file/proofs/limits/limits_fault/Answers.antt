use Rattle.std.proofs.Common.{◌++◌, ◌∙◌, ap, drop, rules}
use Rattle.std.specs.List.{flat_map}
use Rattle.kat_type.specs.Limits.{field_limit, item_limit}
use Rattle.kat_judging.specs.Faults.{fault, first_of}
use Rattle.kat_type_file.specs.Limits.{operation_limits, past_params}
use Rattle.kat_judging.proofs.Firsts.{both_first, four_first}
use Rattle.kat_type_file.proofs.limits.limits_fault.Goals as goal

pub returns : goal.returns
returns c =
    both_first (flat_map (λ s. fault 9 s.at) (drop field_limit c.args.text.now.states) ++ flat_map (λ o. fault 9 o.at) (drop item_limit c.args.text.now.operations)
    ++ flat_map (λ q. fault 9 q.at) (drop item_limit c.args.text.now.queries) ++ flat_map (operation_limits c.args.text.now.states) c.args.text.now.operations)
    (flat_map (λ q. past_params q.params) c.args.text.now.queries) c.earlier-behind.result c.queries_limit.result c.earlier-2.result
    (four_first (flat_map (λ s. fault 9 s.at) (drop field_limit c.args.text.now.states)) (flat_map (λ o. fault 9 o.at) (drop item_limit c.args.text.now.operations))
    (flat_map (λ q. fault 9 q.at) (drop item_limit c.args.text.now.queries)) (flat_map (operation_limits c.args.text.now.states) c.args.text.now.operations)
    c.past-fields.result c.past-operation.result c.past-query.result c.operations_limit.result c.earlier.result c.earlier-lines.result c.earlier-behind.result
    (search rules) (c.past-operation.ensures ∙ ap (λ os. first_of (flat_map (λ o. fault 9 o.at) (drop 12 os))) c.as_slice-operations.ensures)
    (c.past-query.ensures ∙ ap (λ qs. first_of (flat_map (λ q. fault 9 q.at) (drop 12 qs))) c.as_slice-queries.ensures) (search rules) c.earlier.ensures c.earlier-lines.ensures c.earlier-behind.ensures)
    (search rules) c.earlier-2.ensures
