use Rattle.std.proofs.Common.{[], refl}
use Rattle.kat_design.specs.Denotations.{denotation_of}
use Rattle.kat_design.specs.Designs.{design_form}
use Rattle.kat_share.proofs.nodes.node_difference.Goals as goal

pub state_difference-requires-clause-known : goal.state_difference-requires-clause-known
state_difference-requires-clause-known c =
    c.states_go_together.ensures.turned c.args.known.now.replica.state.parts (denotation_of (design_form c.args.design.now) []) (c.nodes_go_with_designs.ensures.goes (design_form c.args.design.now) c.args.known.now c.requires.sorted c.requires.known)

pub state_difference-requires-clause-whole : goal.state_difference-requires-clause-whole
state_difference-requires-clause-whole c =
    c.states_go_together.ensures.turned c.args.whole.now.replica.state.parts (denotation_of (design_form c.args.design.now) []) (c.nodes_go_with_designs.ensures.goes (design_form c.args.design.now) c.args.whole.now c.requires.sorted c.requires.whole)

pub returns-clause-made : goal.returns-clause-made
returns-clause-made c = record { number = refl; clock = refl; state = c.in_ok-state.ensures }

pub returns-clause-node : goal.returns-clause-node
returns-clause-node c =
    c.differences_are_nodes.ensures (design_form c.args.design.now) c.args.known.now c.args.whole.now
    (record { number = c.args.whole.now.number; replica = record { clock = c.args.whole.now.replica.clock; state = c.in_ok-state.state } }) c.requires.sorted c.requires.whole
    (record { number = refl; clock = refl; state = c.in_ok-state.ensures })
