use Rattle.kat_delta_script.proofs.Judging.{every_delta_text}
use Rattle.kat_delta_script.proofs.laws.every_text_is_judged.Goals as goal

pub returns : goal.returns
returns c = every_delta_text
