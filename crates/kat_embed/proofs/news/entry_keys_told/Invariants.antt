use Rattle.std.proofs.Common.{take}
use Rattle.kat_difference.specs.Picking.{Picks}
use Rattle.kat_embed.specs.KeyLists.{entry_key_told}
use Rattle.kat_embed.proofs.news.entry_keys_told.Given as goal

abbrev pub invariant-loop-key : goal.invariant-loop-key
invariant-loop-key g l = Picks (entry_key_told g.K.Ord.cmp g.V.Lattice.joined l.known l.table) (take l.key-index l.keys) l.told.items
