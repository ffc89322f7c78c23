use Rattle.kat_opening.proofs.Opening.{smaller_relations_fail}
use Rattle.kat_opening.proofs.laws.smaller_relations_fail.Goals as goal

pub returns : goal.returns
returns c = smaller_relations_fail
