use Rattle.std.proofs.Common.{◌≡◌, length, take}
use Rattle.kat_script.specs.Facts.{done_in}
use Rattle.kat_world.proofs.summaries.operations_in.Given as goal

abbrev pub invariant-lines : goal.invariant-lines
invariant-lines l = l.count ≡ length (done_in (take l.line-index l.lines))
