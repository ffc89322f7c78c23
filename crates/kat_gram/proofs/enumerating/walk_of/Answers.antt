use Rattle.std.proofs.Common.{subst}
use Rattle.std.specs.Prelude.{IfOk}
use Rattle.kat_gram.specs.Courses.{Noted, machine_at}
use Rattle.kat_rules.specs.declared.tokens.Token.{Token}
use Rattle.kat_walk.specs.Marks.{AreOpen}
use Rattle.kat_walk.specs.Walks.{Pending}
use Rattle.kat_gram.proofs.enumerating.walk_of.Goals as goal

pub returns-clause-places : goal.returns-clause-places
returns-clause-places c =
    subst (λ (s : Noted). IfOk c.walk_from.result (λ (walk : Pending Noted Token). AreOpen (machine_at c.args.search.now.setting c.args.search.now.size) s walk.stack))
    c.in_ok-start_of.ensures c.walk_from.ensures.places
