use Rattle.std.proofs.Common.{sym, ◌∙◌}
use Rattle.kat_share.proofs.Lines.{after_none, after_some}
use Rattle.kat_share.proofs.shares.after_line.Goals as goal

pub returns-in-Some : goal.returns-in-Some
returns-in-Some c = after_some c.args.bytes.now c.in-Some.place (sym c.newline.ensures.place ∙ c.in-Some.is)

pub returns-in-None : goal.returns-in-None
returns-in-None c = after_none c.args.bytes.now (sym c.newline.ensures.place ∙ c.in-None.is)
