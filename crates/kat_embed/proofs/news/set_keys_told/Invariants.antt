use Rattle.std.proofs.Common.{take}
use Rattle.kat_difference.specs.Picking.{Picks}
use Rattle.kat_difference.specs.Sets.{key_told}
use Rattle.kat_embed.proofs.news.set_keys_told.Given as goal

abbrev pub invariant-loop-key : goal.invariant-loop-key
invariant-loop-key g l = Picks (key_told g.K.Ord.cmp l.known) (take l.key-index l.keys) l.told.items
