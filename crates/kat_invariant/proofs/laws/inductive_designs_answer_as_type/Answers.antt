use Rattle.kat_num.specs.contracts.values.ValueOrd.TheImpl.Laws.{total-law}
use Rattle.kat_invariant.proofs.Sequential.{inductive_designs_answer}
use Rattle.kat_invariant.proofs.laws.inductive_designs_answer_as_type.Goals as goal

pub returns : goal.returns
returns c = inductive_designs_answer total-law c.tells_values_apart.ensures
