use Rattle.kat_script.proofs.Judging.{every_script_text}
use Rattle.kat_script.proofs.laws.every_text_is_judged.Goals as goal

pub returns : goal.returns
returns c = every_script_text
