use Rattle.kat_num.specs.contracts.values.ValueOrd.TheImpl.Laws.{total-law}
use Rattle.kat_node.proofs.OneJudgement.{every_text}
use Rattle.kat_node.proofs.laws.every_text_is_judged.Goals as goal

pub returns : goal.returns
returns c = λ d bytes sorted. every_text total-law d sorted bytes
