use Rattle.kat_search_laws.proofs.Evidence.{drops_are_due, due_drops_may_drop, due_endings_end, endings_are_due}
use Rattle.kat_search_laws.proofs.report_laws.evidence_is_one.Goals as goal

pub returns-clause-drops_forth : goal.returns-clause-drops_forth
returns-clause-drops_forth c = drops_are_due

pub returns-clause-drops_back : goal.returns-clause-drops_back
returns-clause-drops_back c = due_drops_may_drop

pub returns-clause-ends_forth : goal.returns-clause-ends_forth
returns-clause-ends_forth c = endings_are_due

pub returns-clause-ends_back : goal.returns-clause-ends_back
returns-clause-ends_back c = due_endings_end
