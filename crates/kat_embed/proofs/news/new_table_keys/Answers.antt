use Rattle.kat_num.specs.Orders.{value_order}
use Rattle.kat_embed.proofs.KeyLemmas.{entries_ascend}
use Rattle.kat_embed.proofs.NewKeys.{new_keys_ascend}
use Rattle.kat_embed.proofs.news.new_table_keys.Goals as goal

pub from_keys-requires : goal.from_keys-requires
from_keys-requires g c =
    new_keys_ascend value_order g.V.Lattice.joined c.args.known.now c.args.table.now c.deref.result.now c.in_ok-told.told.items
    (rw (c.deref.ensures.value, c.in_ok-keys.ensures, c.entries.ensures.all) (entries_ascend c.args.table.now.entries c.entries.ensures.canonical.ascending)) c.in_ok-told.ensures
