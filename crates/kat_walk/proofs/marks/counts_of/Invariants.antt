use Rattle.std.proofs.Common.{◌≡◌, take}
use Rattle.kat_walk.proofs.MarkLemmas.{frame_counts}
use Rattle.kat_walk.proofs.marks.counts_of.Given as goal

abbrev pub invariant-loop-frame : goal.invariant-loop-frame
invariant-loop-frame g l = l.counts.items ≡ frame_counts (take l.frame-index l.frames)
