use Rattle.kat_grammar.proofs.Texted.{every_type_text}
use Rattle.kat_grammar.proofs.laws.every_text_is_judged.Goals as goal

pub returns : goal.returns
returns c = every_type_text
