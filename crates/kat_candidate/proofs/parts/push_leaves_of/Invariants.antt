use Rattle.std.proofs.Common.{◌≡◌, ◌++◌, drop}
use Rattle.kat_candidate.specs.Parts.{leaves_from}
use Rattle.kat_candidate.proofs.parts.push_leaves_of.Given as goal

abbrev pub invariant-loop-i : goal.invariant-loop-i
invariant-loop-i l = l.into.items ++ leaves_from l.component l.i (drop l.i l.kinds) ≡ l.fn.into.items ++ leaves_from l.component 0 l.kinds
