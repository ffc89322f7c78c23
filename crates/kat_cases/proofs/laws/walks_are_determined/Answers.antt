use Rattle.kat_cases.proofs.Outcomes.{one_outcome, one_answer, few_lines}
use Rattle.kat_cases.proofs.Unhinted.{walk_unhinted}
use Rattle.kat_cases.proofs.Bridges.{refuting}
use Rattle.kat_cases.proofs.Soundness.{settings_are_sound}
use Rattle.kat_cases.proofs.FreeVariables.{walks_bounded, effort_suffices}
use Rattle.kat_cases.proofs.laws.walks_are_determined.Goals as goal

pub returns-clause-outcome : goal.returns-clause-outcome
returns-clause-outcome c = λ s path left a b u v. one_outcome u v

pub returns-clause-answer : goal.returns-clause-answer
returns-clause-answer c = one_answer

pub returns-clause-few : goal.returns-clause-few
returns-clause-few c = λ s path left behind core lines w. few_lines w

pub returns-clause-no_hints : goal.returns-clause-no_hints
returns-clause-no_hints c = λ s path left behind core lines w. walk_unhinted w

pub returns-clause-sound : goal.returns-clause-sound
returns-clause-sound c = settings_are_sound

pub returns-clause-refute : goal.returns-clause-refute
returns-clause-refute c = refuting

pub returns-clause-bounded : goal.returns-clause-bounded
returns-clause-bounded c = walks_bounded

pub returns-clause-suffices : goal.returns-clause-suffices
returns-clause-suffices c = effort_suffices
