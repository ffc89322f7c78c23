use Rattle.kat_clause.proofs.Laws.{follows_sets, follows_more, derived_more}
use Rattle.kat_clause.proofs.following_is_of_sets.Goals as goal

pub returns : goal.returns
returns c = record { sets = follows_sets; more = follows_more; derived = derived_more }
