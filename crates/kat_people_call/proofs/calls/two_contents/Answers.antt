use Rattle.std.proofs.Common.{ℕ, List, Option, subst}
use Rattle.kat_io.specs.Outside.{Tells}
use Rattle.kat_people_call.proofs.calls.two_contents.Goals as goal

pub returns-clause-told : goal.returns-clause-told
returns-clause-told g c = (
  c.in-Ok.ensures.told,
  subst (λ (held : Option (List ℕ)). Tells held c.in-Ok-content.bytes.items) (c.content.ensures.same c.args.second.now) c.in-Ok-content.ensures.told,
)
