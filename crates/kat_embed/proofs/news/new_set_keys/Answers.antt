use Rattle.kat_num.specs.Orders.{value_order}
use Rattle.kat_embed.proofs.NewKeys.{set_keys_ascend}
use Rattle.kat_embed.proofs.news.new_set_keys.Goals as goal

pub from_keys-requires : goal.from_keys-requires
from_keys-requires c = set_keys_ascend value_order c.args.known.now c.keys.result.now c.in_ok-told.told.items (rw c.keys.ensures.all c.keys.ensures.ascending) c.in_ok-told.ensures
