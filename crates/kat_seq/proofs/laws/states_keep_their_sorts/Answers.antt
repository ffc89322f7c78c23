use Rattle.kat_seq.proofs.Sorting.{states_keep_sorts, answers_have_sorts}
use Rattle.kat_seq.proofs.laws.states_keep_their_sorts.Goals as goal

pub returns-clause-states : goal.returns-clause-states
returns-clause-states c = states_keep_sorts

pub returns-clause-answers : goal.returns-clause-answers
returns-clause-answers c = answers_have_sorts
