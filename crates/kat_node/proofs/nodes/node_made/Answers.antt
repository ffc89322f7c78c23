use Rattle.std.proofs.Common.{map}
use Rattle.kat_design.specs.Designs.{component_form}
use Rattle.kat_node.proofs.Sums.{clock_back, number_back}
use Rattle.kat_node.proofs.nodes.node_made.Goals as goal

pub replica_made-requires-clause-least : goal.replica_made-requires-clause-least
replica_made-requires-clause-least c = (number_back (map component_form c.args.components.now) c.args.stated.now c.in_ok-parts.ensures.said.0).0

pub replica_made-requires-clause-most : goal.replica_made-requires-clause-most
replica_made-requires-clause-most c = (number_back (map component_form c.args.components.now) c.args.stated.now c.in_ok-parts.ensures.said.0).1

pub clock_made-requires-clause-least : goal.clock_made-requires-clause-least
clock_made-requires-clause-least c = (clock_back (map component_form c.args.components.now) c.args.stated.now c.in_ok-parts.ensures.said.0).0

pub clock_made-requires-clause-most : goal.clock_made-requires-clause-most
clock_made-requires-clause-most c = (clock_back (map component_form c.args.components.now) c.args.stated.now c.in_ok-parts.ensures.said.0).1
