use Rattle.std.proofs.Common.{[], rules}
use Rattle.std.specs.List.{flat_map}
use Rattle.kat_judging.specs.Faults.{first_families, item_names, operation_faults, query_faults, state_faults, twice_among}
use Rattle.kat_judging.proofs.Firsts.{four_first}
use Rattle.kat_type_file.proofs.items.type_fault.Goals as goal

pub returns : goal.returns
returns c =
    four_first (state_faults c.args.text.now.states) (twice_among [] (item_names c.args.text.now))
    (flat_map (operation_faults c.args.text.now.states (first_families c.args.text.now.operations)) c.args.text.now.operations)
    (flat_map (query_faults c.args.text.now.states) c.args.text.now.queries)
    c.in_ok-fields.fields c.in_ok-items.items c.in_ok-operation.operation c.in_ok-query.query c.earlier.result c.earlier-2.result c.earlier-3.result
    (search rules) (search rules) (search rules) (search rules) c.earlier.ensures c.earlier-2.ensures c.earlier-3.ensures
