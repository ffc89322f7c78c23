use Rattle.kat_delta.proofs.Sequence.{delta_design_answers}
use Rattle.kat_delta.proofs.laws.deltas_answer_sequentially.Goals as goal

pub returns : goal.returns
returns c = λ ty d script same right judged. delta_design_answers ty d script same right judged
