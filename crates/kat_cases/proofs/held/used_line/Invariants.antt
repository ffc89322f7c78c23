use Rattle.std.proofs.Common.{◌≡◌, ◌++◌, drop}
use Rattle.kat_cases.specs.Nodes.{used_literals, used_multipliers}
use Rattle.kat_cases.proofs.held.used_line.Given as goal

abbrev pub invariant-loop-i : goal.invariant-loop-i
invariant-loop-i l =
    (l.lits.items ++ used_literals (drop l.i l.held) (drop l.i l.multipliers) ≡ used_literals l.held l.multipliers)
    × (l.used.items ++ used_multipliers (drop l.i l.multipliers) ≡ used_multipliers l.multipliers)
