use Rattle.kat_embed.proofs.KeyLemmas.{entries_ascend}
use Rattle.kat_embed.proofs.keys.table_keys.Goals as goal

pub from_keys-requires : goal.from_keys-requires
from_keys-requires g c = rw (c.in_ok-keys.ensures, c.entries.ensures.all) (entries_ascend c.args.table.now.entries c.entries.ensures.canonical.ascending)
