use Rattle.kat_design.proofs.SmallDesigns.{small_design}
use Rattle.kat_sort_check.proofs.laws.accepted_designs_are_small.Goals as goal

pub returns : goal.returns
returns c = small_design
