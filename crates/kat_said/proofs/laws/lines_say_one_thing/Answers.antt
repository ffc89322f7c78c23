use Rattle.kat_said.proofs.Lines.{one_saying}
use Rattle.kat_said.proofs.laws.lines_say_one_thing.Goals as goal

pub returns : goal.returns
returns c = one_saying
