use Rattle.std.proofs.Common.{◌≡◌, List, None, map, subst, sym}
use Rattle.serde_json.specs.Data.{Data}
use Rattle.serde_json.specs.View.{view}
use Rattle.kat_num.specs.Orders.{value_order}
use Rattle.kat_num.specs.contracts.values.ValueOrd.TheImpl.Laws.{total-law}
use Rattle.kat_design.specs.Designs.{component_form, design_form}
use Rattle.kat_design.specs.Sorted.{EachHas}
use Rattle.kat_design.specs.declared.designs.Component.{Component}
use Rattle.kat_replica.specs.Starting.{HasStarts}
use Rattle.kat_node.specs.NodeFiles.{IsNodeRefusal, IsRefusalOf, refusal_of}
use Rattle.kat_node.specs.Possible.{node_made}
use Rattle.kat_node.specs.StateForms.{node_said}
use Rattle.kat_node.proofs.NodesBack.{handed_node, json_refused, text_of_node}
use Rattle.kat_node.proofs.Starts.{each_start}
use Rattle.kat_node.proofs.nodes.read_node.Goals as goal

pub accepted-requires : goal.accepted-requires
accepted-requires c =
    let d = design_form c.args.design.now in
    subst (λ (cs : List Component). EachHas HasStarts (map component_form cs)) (sym c.as_slice.ensures) (each_start d.sig.ops d.components c.requires.sorted.components)

pub returns-clause-read : goal.returns-clause-read
returns-clause-read c =
    let d = design_form c.args.design.now in
    let ds = map view c.elements_of.result.now in
    let node = c.in_ok-node.node in
    let none = subst (λ (cs : List Component). refusal_of (map component_form cs) ds ≡ None) c.as_slice.ensures c.in_ok-node.ensures.accepted in
    let said = subst (λ (cs : List Component). node ≡ node_made (map component_form cs) (node_said (map component_form cs) ds)) c.as_slice.ensures c.in_ok-node.ensures.said in
    text_of_node total-law d c.args.bytes.now (view c.in_ok-value.value) ds node (each_start d.sig.ops d.components c.requires.sorted.components) c.in_ok-value.ensures.json c.elements_of.ensures none said

pub returns-in_err-node-clause-refused : goal.returns-in_err-node-clause-refused
returns-in_err-node-clause-refused c =
    let d = design_form c.args.design.now in
    let value = view c.in_ok-value.value in
    let e = c.in_err-node.field-0.0 in
    let ds = map view c.elements_of.result.now in
    let first = subst (λ (cs : List Component). IsRefusalOf (refusal_of (map component_form cs) ds) e) c.as_slice.ensures c.in_err-node.ensures.refused in
    let refused = subst (λ (es : List Data). IsRefusalOf (refusal_of d.components es) e) c.elements_of.ensures first in
    handed_node c.from_residual-in_err-node.result e (IsNodeRefusal d c.args.bytes.now) c.from_residual-in_err-node.ensures.1
    (json_refused d c.args.bytes.now value e c.in_ok-value.ensures.json refused)

pub returns-in_err-value-clause-refused : goal.returns-in_err-value-clause-refused
returns-in_err-value-clause-refused c =
    let d = design_form c.args.design.now in
    handed_node c.from_residual.result c.in_err-value.field-0.0 (IsNodeRefusal d c.args.bytes.now) c.from_residual.ensures.1 (c.in_err-value.ensures.refused d)
