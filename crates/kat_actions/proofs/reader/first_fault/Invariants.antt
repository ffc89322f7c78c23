use Rattle.std.proofs.Common.{◌-◌, length}
use Rattle.kat_script.proofs.Behind.{Passed}
use Rattle.kat_actions.proofs.reader.first_fault.Given as goal

abbrev pub invariant-lines : goal.invariant-lines
invariant-lines l = Passed l.bytes l.from l.at

abbrev pub decreases-lines : goal.decreases-lines
decreases-lines l = length l.bytes - l.at
