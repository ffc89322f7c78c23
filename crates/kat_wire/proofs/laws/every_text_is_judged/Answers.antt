use Rattle.kat_wire.proofs.Judging.{every_text}
use Rattle.kat_wire.proofs.laws.every_text_is_judged.Goals as goal

pub returns : goal.returns
returns c = every_text
