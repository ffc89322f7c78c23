use Rattle.kat_hist.proofs.HistoryJudged.{history_judged}
use Rattle.kat_hist.proofs.laws.script_texts_are_judged.Goals as goal

pub returns : goal.returns
returns c = history_judged
