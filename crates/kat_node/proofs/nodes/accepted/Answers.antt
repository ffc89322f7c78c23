use Rattle.std.proofs.Common.{rules, ◌≡◌, map, true}
use Rattle.serde_json.specs.View.{view}
use Rattle.kat_design.specs.Designs.{component_form}
use Rattle.kat_json.specs.Refused.{IsSaid}
use Rattle.kat_node.specs.NodeFiles.{IsRefusalOf, has_version, is_state, refusal_of}
use Rattle.kat_node.specs.Possible.{possible_faults}
use Rattle.kat_node.specs.StateForms.{node_faults, node_said}
use Rattle.kat_node.proofs.Judged.{said_by}
use Rattle.kat_node.proofs.NodesBack.{accepted_said, handed_node, passed_by, refused_form, refused_said}
use Rattle.kat_node.proofs.nodes.accepted.Goals as goal

pub returns-in_err-stated-clause-refused : goal.returns-in_err-stated-clause-refused
returns-in_err-stated-clause-refused c =
    let cs = map component_form c.args.components.now in
    let ds = map view c.args.parts.now in
    let e = c.in_err-stated.field-0.0 in
    let state : is_state ds ≡ true = search rules in
    let version : has_version ds ≡ true = search rules in
    handed_node c.from_residual.result e (IsRefusalOf (refusal_of cs ds)) c.from_residual.ensures.1
    (refused_form cs ds e state version (c.in_err-stated.ensures.err (node_faults cs ds) c.node_stated.ensures.refused))

pub returns-in_err-node-clause-refused : goal.returns-in_err-node-clause-refused
returns-in_err-node-clause-refused c =
    let cs = map component_form c.args.components.now in
    let ds = map view c.args.parts.now in
    let e = c.in_err-node.field-0.0 in
    let stated = c.in_ok-stated.stated in
    let state : is_state ds ≡ true = search rules in
    let version : has_version ds ≡ true = search rules in
    let said = said_by c.node_stated.result stated (IsSaid (node_faults cs ds) (node_said cs ds)) c.in_ok-stated.ensures.ok c.node_stated.ensures.said in
    handed_node c.from_residual-in_err-node.result e (IsRefusalOf (refusal_of cs ds)) c.from_residual-in_err-node.ensures.1
    (refused_said cs ds stated e state version said (c.in_err-node.ensures.err (possible_faults cs stated) c.node_made.ensures.refused))

pub returns-clause-accepted : goal.returns-clause-accepted
returns-clause-accepted c =
    let cs = map component_form c.args.components.now in
    let ds = map view c.args.parts.now in
    let stated = c.in_ok-stated.stated in
    let state : is_state ds ≡ true = search rules in
    let version : has_version ds ≡ true = search rules in
    let said = said_by c.node_stated.result stated (IsSaid (node_faults cs ds) (node_said cs ds)) c.in_ok-stated.ensures.ok c.node_stated.ensures.said in
    passed_by cs ds stated c.node_made.result c.in_ok-node.node state version said c.in_ok-node.ensures.ok c.node_made.ensures.said

pub returns-clause-said : goal.returns-clause-said
returns-clause-said c =
    let cs = map component_form c.args.components.now in
    let ds = map view c.args.parts.now in
    let stated = c.in_ok-stated.stated in
    let said = said_by c.node_stated.result stated (IsSaid (node_faults cs ds) (node_said cs ds)) c.in_ok-stated.ensures.ok c.node_stated.ensures.said in
    accepted_said cs ds stated c.node_made.result c.in_ok-node.node said c.in_ok-node.ensures.ok c.node_made.ensures.said
