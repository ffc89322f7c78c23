use Rattle.kat_form.proofs.Formulas.{truth_extends, clauses_decide, numbers_decide, points_decide}
use Rattle.kat_form.proofs.FitFacts.{valuations_decide}
use Rattle.kat_form.proofs.laws.clauses_say_what_facts_say.Goals as goal

pub returns-clause-extend : goal.returns-clause-extend
returns-clause-extend c = truth_extends

pub returns-clause-decide : goal.returns-clause-decide
returns-clause-decide c = clauses_decide

pub returns-clause-valuations : goal.returns-clause-valuations
returns-clause-valuations c = valuations_decide

pub returns-clause-numbers : goal.returns-clause-numbers
returns-clause-numbers c = numbers_decide

pub returns-clause-points : goal.returns-clause-points
returns-clause-points c = points_decide
