use Rattle.std.proofs.Common.{◌≡◌, length}
use Rattle.kat_picture.specs.Histories.{behind_head, lines_of}
use Rattle.kat_picture.proofs.histories.behind_head.Given as goal

abbrev pub invariant-lines : goal.invariant-lines
invariant-lines l = behind_head l.head (lines_of l.rest) ≡ behind_head l.head (lines_of l.fn.report)

abbrev pub decreases-lines : goal.decreases-lines
decreases-lines l = length l.rest
