use Rattle.std.proofs.Common.{length}
use Rattle.kat_type_file.proofs.ranks.+kinds_fault.Given as goal

abbrev pub decreases-kinds_fault : goal.decreases-kinds_fault
decreases-kinds_fault l = length l.families.now
