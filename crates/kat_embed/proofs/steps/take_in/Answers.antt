use Rattle.std.proofs.Common.{◌≡◌, [], ◌∷◌, false, subst, sym, true, ◌∙◌}
use Rattle.kat_num.specs.contracts.values.ValueOrd.TheImpl.Laws.{total-law}
use Rattle.kat_design.specs.Designs.{design_form}
use Rattle.kat_node.specs.Nodes.{IsNode}
use Rattle.kat_design.specs.Meanings.{are_kin}
use Rattle.kat_design.specs.Parts.{PartsKin}
use Rattle.kat_node.specs.Packets.{parts_of, with_packet}
use Rattle.kat_node.specs.declared.nodes.Node.{Node}
use Rattle.kat_embed.specs.Absorbing.{IsAbsorbed}
use Rattle.kat_embed.proofs.AddsNothing.{absorbed_same, same_absorbed}
use Rattle.kat_embed.proofs.Keeping.{node_taken}
use Rattle.kat_embed.proofs.steps.take_in.Goals as goal

pub take_in-requires : goal.take_in-requires
take_in-requires c = record {
  kin = (c.packets_leave_nodes.ensures.go (design_form c.args.design.now) c.args.node.now (c.args.packet.now ∷ []) c.requires.sorted c.requires.node (c.requires.packet, tt)).0;
}

pub returns-clause-kept : goal.returns-clause-kept
returns-clause-kept c =
    subst (IsNode (design_form c.args.design.now)) (node_taken c.args.node.now c.args.packet.now c.take_in.new.self c.in_ok-take_in.ensures.joins c.in_ok-take_in.ensures.clock)
    (c.packets_leave_nodes.ensures.kept (design_form c.args.design.now) c.args.node.now (c.args.packet.now ∷ []) c.requires.sorted c.requires.node (c.requires.packet, tt))

pub is_absorbed-requires : goal.is_absorbed-requires
is_absorbed-requires c =
    c.states_go_together.ensures.turned (parts_of c.args.node.now) (parts_of c.args.packet.now)
    (c.packets_leave_nodes.ensures.go (design_form c.args.design.now) c.args.node.now (c.args.packet.now ∷ []) c.requires.sorted c.requires.node (c.requires.packet, tt)).0

pub returns-then-is_absorbed-clause-taken : goal.returns-then-is_absorbed-clause-taken
returns-then-is_absorbed-clause-taken c =
    absorbed_same total-law c.args.node.now c.args.packet.now
    (c.states_go_together.ensures.turned (parts_of c.args.node.now) (parts_of c.args.packet.now)
    (c.packets_leave_nodes.ensures.go (design_form c.args.design.now) c.args.node.now (c.args.packet.now ∷ []) c.requires.sorted c.requires.node (c.requires.packet, tt)).0)
    (c.is_absorbed.ensures.0 c.if-is_absorbed.true)

pub returns-clause-told : goal.returns-clause-told
returns-clause-told c =
    let node = c.args.node.now in
    let packet = c.args.packet.now in
    let kin : are_kin PartsKin (parts_of packet) (parts_of node) =
    c.states_go_together.ensures.turned (parts_of node) (parts_of packet)
    (c.packets_leave_nodes.ensures.go (design_form c.args.design.now) node (packet ∷ []) c.requires.sorted c.requires.node (c.requires.packet, tt)).0 in
    let after : Node = record { number = node.number; replica = c.take_in.new.self } in
    let taken : with_packet node packet ≡ after = node_taken node packet c.take_in.new.self c.in_ok-take_in.ensures.joins c.in_ok-take_in.ensures.clock in (
      (λ e. absurd (let bad : true ≡ false = e in cc)),
      (λ same.
          let here : after ≡ node = same in
          let is : IsAbsorbed node packet = same_absorbed total-law node packet kin (taken ∙ here) in
          let yes : c.is_absorbed.result ≡ true = c.is_absorbed.ensures.1 is in
          let no : c.is_absorbed.result ≡ false = c.if-is_absorbed.false in
          let bad : true ≡ false = sym yes ∙ no in
          absurd (cc)),
    )
