use Rattle.std.proofs.Common.{◌≡◌, take}
use Rattle.kat_lattice.specs.InPlace.{new_entries}
use Rattle.kat_lattice.proofs.in_place.new_of.Given as goal

abbrev pub invariant-loop-entry : goal.invariant-loop-entry
invariant-loop-entry g l = l.fresh.items ≡ new_entries g.K.Ord.cmp l.mine (take l.entry-index l.theirs)
