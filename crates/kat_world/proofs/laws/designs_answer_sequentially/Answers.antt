use Rattle.kat_world.proofs.AsTypes.{design_answers, design_models}
use Rattle.kat_world.proofs.laws.designs_answer_sequentially.Goals as goal

pub returns-clause-answers : goal.returns-clause-answers
returns-clause-answers c = λ ty d script same right judged. design_answers ty d script same right judged

pub returns-clause-model : goal.returns-clause-model
returns-clause-model c = λ ty d script same right judged none. design_models ty d script same right judged none
