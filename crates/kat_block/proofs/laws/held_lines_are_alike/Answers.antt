use Rattle.kat_block.proofs.Alikes.{alike}
use Rattle.kat_block.proofs.laws.held_lines_are_alike.Goals as goal

pub returns : goal.returns
returns c = alike
