use Rattle.kat_design.specs.Designs.{design_form}
use Rattle.kat_node_texts.proofs.writing.new_text.Goals as goal

pub write_node-requires : goal.write_node-requires
write_node-requires c = c.nodes_go_with_designs.ensures.written (design_form c.args.design.now) c.in_ok-node.node c.in_ok-node.ensures.kept
