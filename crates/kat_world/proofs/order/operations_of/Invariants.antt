use Rattle.std.proofs.Common.{◌≡◌, take}
use Rattle.kat_script.specs.Facts.{done_in}
use Rattle.kat_world.proofs.order.operations_of.Given as goal

abbrev pub invariant-loop-line : goal.invariant-loop-line
invariant-loop-line l = l.order.items ≡ done_in (take l.line-index l.lines)
