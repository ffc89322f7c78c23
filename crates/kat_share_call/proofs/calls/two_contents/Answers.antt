use Rattle.std.proofs.Common.{ℕ, List, Option, subst}
use Rattle.kat_io.specs.Outside.{Tells}
use Rattle.kat_share_call.proofs.calls.two_contents.Goals as goal

pub returns-in-Ok-content-clause-told : goal.returns-in-Ok-content-clause-told
returns-in-Ok-content-clause-told g c = (
  c.in-Ok.ensures.told,
  subst (λ (held : Option (List ℕ)). Tells held c.in-Ok-content.others.items) (c.content.ensures.same c.args.second.now) c.in-Ok-content.ensures.told,
)
