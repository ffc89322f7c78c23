use Rattle.kat_search.proofs.Refuting.{answered, none_means, refuted_means}
use Rattle.kat_search.proofs.laws.none_is_answered_exactly.Goals as goal

pub returns-clause-refuted : goal.returns-clause-refuted
returns-clause-refuted c = none_means

pub returns-clause-none : goal.returns-clause-none
returns-clause-none c = refuted_means

pub returns-clause-exactly : goal.returns-clause-exactly
returns-clause-exactly c = answered
