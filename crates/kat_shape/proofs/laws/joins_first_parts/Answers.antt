use Rattle.kat_shape.proofs.ByLeaves.{joins_first_parts}
use Rattle.kat_shape.proofs.laws.joins_first_parts.Goals as goal

pub returns : goal.returns
returns c = joins_first_parts
