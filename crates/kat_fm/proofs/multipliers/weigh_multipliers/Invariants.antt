use Rattle.std.proofs.Common.{◌+◌, ◌-◌, ◌≤◌, ◌^◌, drop, length}
use Rattle.kat_fm.proofs.Merges.{Merging}
use Rattle.kat_fm.proofs.multipliers.weigh_multipliers.Given as goal

abbrev pub invariant-loop-next : goal.invariant-loop-next
invariant-loop-next l = record {
  merging : Merging (2 ^ 62) l.weights.plus l.weights.minus l.count l.ps.entries.items l.ns.entries.items (drop l.i l.ps.entries.items) (drop l.j l.ns.entries.items) l.entries.items;
  i : l.i ≤ length l.ps.entries.items;
  j : l.j ≤ length l.ns.entries.items;
}

abbrev pub decreases-loop-next : goal.decreases-loop-next
decreases-loop-next l = length l.ps.entries.items + length l.ns.entries.items - (l.i + l.j)
