use Rattle.kat_cases.proofs.DecisivePoints.{sized_facts_are_walkable}
use Rattle.kat_cases.proofs.laws.encodings_are_walkable.Goals as goal

pub returns : goal.returns
returns c = sized_facts_are_walkable
