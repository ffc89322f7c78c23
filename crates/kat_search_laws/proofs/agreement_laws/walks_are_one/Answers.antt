use Rattle.kat_search_laws.proofs.WalksBoth.{ends_are_ends, ends_are_given}
use Rattle.kat_search_laws.proofs.agreement_laws.walks_are_one.Goals as goal

pub returns-clause-forth : goal.returns-clause-forth
returns-clause-forth c = ends_are_ends

pub returns-clause-back : goal.returns-clause-back
returns-clause-back c = ends_are_given
