use Rattle.kat_num.specs.contracts.values.ValueOrd.TheImpl.Laws.{total-law}
use Rattle.kat_node_texts.proofs.Refusing.{file_judged}
use Rattle.kat_node_texts.proofs.laws.every_file_is_judged.Goals as goal

pub returns : goal.returns
returns c = λ d place text sorted. file_judged total-law d place text sorted
