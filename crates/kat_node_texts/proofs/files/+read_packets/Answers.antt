use Rattle.std.proofs.Common.{◌≡◌, ◌∷◌, List, subst, sym}
use Rattle.std.specs.Prelude.{IfErr, ℕ, Vec}
use Rattle.std.specs.Global.{Global}
use Rattle.kat_design.specs.Designs.{design_form}
use Rattle.kat_node.specs.NodeFiles.{IsNodeText}
use Rattle.kat_script.proofs.Streaming.{err_is}
use Rattle.kat_node_texts.specs.Files.{TellsPacket, contents}
use Rattle.kat_node_texts.proofs.Refusing.{later_packet}
use Rattle.kat_node_texts.proofs.files.+read_packets.Goals as goal

pub returns-in_err-nodes-clause-refused : goal.returns-in_err-nodes-clause-refused
returns-in_err-nodes-clause-refused t c =
    let d = design_form c.args.design.now in
    let split : c.args.packets.now ≡ c.in-Some.packet.now ∷ c.in-Some.rest.now = c.in-Some.ensures.cases.0 in
    subst (λ (packets : List (Vec ℕ Global)). IfErr c.from_residual.result (TellsPacket d c.args.first (contents packets))) (sym split)
    (err_is c.from_residual.result c.in_err-nodes.field-0.0 (TellsPacket d c.args.first (contents (c.in-Some.packet.now ∷ c.in-Some.rest.now))) c.from_residual.ensures.1
    (later_packet d c.args.first c.in-Some.packet.now.items (contents c.in-Some.rest.now) c.in-Ok.node c.in_err-nodes.field-0.0
    (subst (λ (text : List ℕ). IsNodeText d text c.in-Ok.node) c.deref.ensures.value c.in-Ok.ensures.read) c.in_err-nodes.ensures.refused))
