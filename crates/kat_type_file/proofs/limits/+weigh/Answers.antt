use Rattle.std.proofs.Common.{◌∙◌}
use Rattle.kat_type_file.specs.Limits.{is_number}
use Rattle.kat_judging.specs.Names.{first_named}
use Rattle.kat_judging.specs.Sorts.{table_found}
use Rattle.kat_type_file.proofs.Weights.{one_small}
use Rattle.kat_type_file.proofs.limits.+weigh.Goals as goal

pub returns-in-Entry-clause-found : goal.returns-in-Entry-clause-found
returns-in-Entry-clause-found t c = rw c.in-Entry.is c.weigh_entry.ensures.found

pub returns-in-Entry-clause-weight : goal.returns-in-Entry-clause-weight
returns-in-Entry-clause-weight t c =
    rw c.in-Entry.is (c.weigh_entry.ensures.weight ∙ one_small (is_number (table_found (first_named (λ s. s.name.code) c.in-Entry.table.code c.args.states.now))))
