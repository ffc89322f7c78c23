use Rattle.std.proofs.Common.{◌≡◌, ◌++◌, take}
use Rattle.kat_lattice.proofs.grow_map.ValueEntriesEntries.push_copies.Given as goal

abbrev pub invariant-loop-entry : goal.invariant-loop-entry
invariant-loop-entry g l = l.into.items ≡ l.fn.into.items ++ take l.entry-index l.entries
