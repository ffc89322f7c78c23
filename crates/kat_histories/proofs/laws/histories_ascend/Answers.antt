use Rattle.kat_histories.proofs.Rising.{histories_ascend}
use Rattle.kat_histories.proofs.laws.histories_ascend.Goals as goal

pub returns : goal.returns
returns c = histories_ascend
