use Rattle.std.proofs.Common.{take}
use Rattle.kat_difference.specs.Maps.{entry_told}
use Rattle.kat_difference.specs.Picking.{Picks}
use Rattle.kat_difference.proofs.maps.new_values.Given as goal

abbrev pub invariant-loop-entry : goal.invariant-loop-entry
invariant-loop-entry g l = Picks (entry_told g.K.Ord.cmp g.L.Lattice.kin g.L.Lattice.joined (g.L.Difference.exact l.known.start) (g.L.Difference.is_piece l.known.start) l.known) (take l.entry-index l.entries) l.told.items
