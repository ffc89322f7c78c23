use Rattle.std.proofs.Common.{subst}
use Rattle.kat_embed.specs.Contents.{UnitesOperations, with_node}
use Rattle.kat_embed.specs.declared.contents.Contents.{Contents}
use Rattle.kat_embed.proofs.Keeping.{merged_unites}
use Rattle.kat_embed.proofs.embedded.Embedded.merge.Goals as goal

pub returns-clause-unites : goal.returns-clause-unites
returns-clause-unites c =
    subst (λ (k : Contents). UnitesOperations c.args.state.now k (with_node c.self.inside.contents c.take_in.new.node)) c.self.view_is
    (merged_unites c.packets_unite.ensures c.self.inside.contents c.args.state.now c.in_ok-packet.packet c.take_in.new.node c.self.invariant c.in_ok-packet.ensures.read c.in_ok-changed.ensures.taken)
