use Rattle.std.proofs.Common.{length, ◌+◌, ◌-◌, ◌≡◌, ◌≤◌, ◌↔◌, drop}
use Rattle.std.specs.Ordering.{on}
use Rattle.kat_join.specs.Keyed.{union}
use Rattle.kat_join.proofs.merge.is_part.Given as goal

abbrev pub invariant-loop-i : goal.invariant-loop-i
invariant-loop-i g l =
    let cmp = on g.M.Entries.key g.M.Key.Ord.cmp in
    (l.i ≤ length l.mine) × (l.j ≤ length l.theirs)
    × ((union cmp g.M.Entries.onto l.mine l.theirs ≡ l.theirs) ↔ (union cmp g.M.Entries.onto (drop l.i l.mine) (drop l.j l.theirs) ≡ drop l.j l.theirs))

abbrev pub decreases-loop-i : goal.decreases-loop-i
decreases-loop-i g l = (length l.mine - l.i) + (length l.theirs - l.j)
