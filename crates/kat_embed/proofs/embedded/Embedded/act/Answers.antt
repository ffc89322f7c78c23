use Rattle.std.proofs.Common.{subst}
use Rattle.kat_embed.specs.Contents.{AddsOperation, with_state}
use Rattle.kat_embed.specs.declared.contents.Contents.{Contents}
use Rattle.kat_embed.proofs.Keeping.{acted_adds}
use Rattle.kat_embed.proofs.embedded.Embedded.act.Goals as goal

pub returns-clause-adds : goal.returns-clause-adds
returns-clause-adds c =
    subst (λ (k : Contents). AddsOperation k c.args.call (with_state c.self.inside.contents c.act_on.new.node c.in_ok-next.next)) c.self.view_is
    (acted_adds c.actions_are_operations.ensures.denotes c.self.inside.contents c.args.call c.act_on.new.node c.in_ok-next.next c.self.invariant c.in_ok-act_on.ensures.steps)
