use Rattle.kat_lex.proofs.Exists.{every_text}
use Rattle.kat_lex.proofs.laws.every_text_is_read.Goals as goal

pub returns : goal.returns
returns c = every_text
