use Rattle.kat_world.proofs.Replied.{design_replies}
use Rattle.kat_world.proofs.laws.designs_reply_as_types.Goals as goal

pub returns : goal.returns
returns c = λ ty d script right judged. design_replies ty d script right judged
