use Rattle.std.proofs.Common.{◌≡◌, drop}
use Rattle.kat_script.specs.Marks.{touches_next}
use Rattle.kat_script.proofs.marks.touches_next.Given as goal

-- what is left to look at decides
abbrev pub invariant-loop-right : goal.invariant-loop-right
invariant-loop-right l = touches_next l.left (drop l.right-index l.tokens) ≡ touches_next l.fn.left l.tokens
