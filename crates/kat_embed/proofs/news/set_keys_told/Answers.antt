use Rattle.std.proofs.Common.{◌<◌, length, rules}
use Rattle.kat_difference.proofs.Picks.{begins, grown_next}
use Rattle.kat_embed.proofs.news.set_keys_told.Goals as goal

pub loop-key-init : goal.loop-key-init
loop-key-init g c = begins c.args.keys.now c.new-told.result.items c.new-told.ensures.items

pub loop-key-preserved : goal.loop-key-preserved
loop-key-preserved g c =
    let inside : c.loop-key.key-index < length c.args.keys.now = search rules in
    grown_next c.args.keys.now c.loop-key.told.items c.tell_set_key.new.into.items c.loop-key.key-index c.key-item.result inside c.key-item.is c.loop-key.invariant c.in_ok-tell_set_key.ensures
