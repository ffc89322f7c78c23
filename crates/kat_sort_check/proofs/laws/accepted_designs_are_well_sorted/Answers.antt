use Rattle.kat_design.proofs.Accepted.{well_sorted}
use Rattle.kat_design.proofs.Converse.{no_faults}
use Rattle.kat_sort_check.proofs.laws.accepted_designs_are_well_sorted.Goals as goal

pub returns-clause-sorted : goal.returns-clause-sorted
returns-clause-sorted c = well_sorted

pub returns-clause-accepted : goal.returns-clause-accepted
returns-clause-accepted c = no_faults
