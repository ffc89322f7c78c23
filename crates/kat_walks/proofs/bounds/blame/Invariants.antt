use Rattle.std.proofs.Common.{◌≡◌, ◌++◌, drop}
use Rattle.kat_walks.specs.Walks.{blamed}
use Rattle.kat_walks.proofs.bounds.blame.Given as goal

abbrev pub invariant-loop-i : goal.invariant-loop-i
invariant-loop-i l = l.lits.items ++ blamed (drop l.i l.held) (drop l.i l.multipliers) ≡ blamed l.held l.multipliers
