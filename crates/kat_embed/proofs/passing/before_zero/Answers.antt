use Rattle.std.proofs.Common.{◌∙◌, sym}
use Rattle.kat_embed.proofs.Passed.{before_none, before_some}
use Rattle.kat_embed.proofs.passing.before_zero.Goals as goal

pub returns-in-Some : goal.returns-in-Some
returns-in-Some c = before_some c.args.bytes.now c.in-Some.count (sym c.first_zero.ensures.place ∙ c.in-Some.is)

pub returns-in-None : goal.returns-in-None
returns-in-None c = before_none c.args.bytes.now (sym c.first_zero.ensures.place ∙ c.in-None.is)
