use Rattle.std.proofs.Common.{subst}
use Rattle.kat_node.specs.NodeFiles.{IsNodeText}
use Rattle.kat_embed.specs.Contents.{design_of}
use Rattle.kat_embed.specs.declared.contents.Contents.{Contents}
use Rattle.kat_embed.proofs.embedded.Embedded.state.Goals as goal

pub write_node-requires : goal.write_node-requires
write_node-requires c = c.nodes_go_with_designs.ensures.written (design_of c.self.inside.contents) c.self.inside.contents.node c.self.invariant.node

pub returns-clause-read : goal.returns-clause-read
returns-clause-read c =
    subst (λ (k : Contents). IsNodeText (design_of k) c.in_ok-text.text.items k.node) c.self.view_is
    (c.in_ok-text.ensures.read (design_of c.self.inside.contents) c.self.invariant.node)
