use Rattle.std.proofs.Common.{rules, ◌≡◌}
use Rattle.kat_design.specs.Designs.{component_form}
use Rattle.kat_shape.specs.Flats.{filled_with}
use Rattle.kat_shape.specs.Forms.{form_of}
use Rattle.kat_json.proofs.Refusing.{err_same}
use Rattle.kat_node.specs.Possible.{part_faults, set_faults, table_faults, tallies_faults}
use Rattle.kat_node.proofs.states.part_made.Goals as goal

pub returns-in-Table-stated-2-clause-refused : goal.returns-in-Table-stated-2-clause-refused
returns-in-Table-stated-2-clause-refused c =
    let f = form_of c.in-Table.shape in
    let same : part_faults (component_form c.args.component.now) c.args.stated.now ≡ table_faults c.in-Table.key f (filled_with f c.in-Table.starts) c.in-Table-stated-2.entries = search rules in
    err_same c.table_stated.result _ _ same c.table_stated.ensures.refused

pub returns-in-Set-stated-clause-refused : goal.returns-in-Set-stated-clause-refused
returns-in-Set-stated-clause-refused c =
    let same : part_faults (component_form c.args.component.now) c.args.stated.now ≡ set_faults c.in-Set.key c.in-Set-stated.keys = search rules in
    err_same c.set_stated.result _ _ same c.set_stated.ensures.refused

pub returns-in-Tallies-stated-clause-refused : goal.returns-in-Tallies-stated-clause-refused
returns-in-Tallies-stated-clause-refused c =
    let same : part_faults (component_form c.args.component.now) c.args.stated.now ≡ tallies_faults c.in-Tallies.key c.in-Tallies-stated.entries = search rules in
    err_same c.tallies_stated.result _ _ same c.tallies_stated.ensures.refused
