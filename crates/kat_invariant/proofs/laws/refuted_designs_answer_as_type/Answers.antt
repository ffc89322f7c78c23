use Rattle.kat_invariant.proofs.laws.refuted_designs_answer_as_type.Goals as goal

pub returns : goal.returns
returns c = λ ty d relation go fits shown. c.inductive_designs_answer_as_type.ensures ty d relation go (c.refuted_conditions_hold.ensures ty d relation go fits shown)
