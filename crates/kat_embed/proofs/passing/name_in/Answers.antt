use Rattle.kat_embed.proofs.Passed.{name_none, name_one}
use Rattle.kat_embed.proofs.passing.name_in.Goals as goal

pub returns-in-Some : goal.returns-in-Some
returns-in-Some c = name_one c.args.passed.now c.before_zero.result.now c.in-Some.code c.if-passed-ne-NAME.false c.before_zero.ensures c.in-Some.ensures

pub returns-in-None : goal.returns-in-None
returns-in-None c = name_none c.args.passed.now c.before_zero.result.now c.before_zero.ensures c.in-None.ensures
