use Rattle.kat_actions.proofs.Judging.{every_text_of_calls}
use Rattle.kat_actions.proofs.laws.every_text_is_judged.Goals as goal

pub returns : goal.returns
returns c = every_text_of_calls
