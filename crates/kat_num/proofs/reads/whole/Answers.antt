use Rattle.kat_num.proofs.Arguments.{whole_one}
use Rattle.kat_num.proofs.reads.whole.Goals as goal

pub returns-in-Some : goal.returns-in-Some
returns-in-Some c = rw c.in-Some.ensures c.negative.ensures

pub returns-in-None : goal.returns-in-None
returns-in-None c = whole_one c.args.bytes.now c.in-None.ensures c.natural.result c.natural.ensures
