use Rattle.std.proofs.Common.{◌≡◌, List, get_or, true}
use Rattle.std.specs.Prelude.{slice_get}
use Rattle.std.proofs.lemmas.Result.{IfOk-weaker}
use Rattle.kat_num.specs.Orders.{value_order}
use Rattle.kat_num.specs.contracts.values.ValueOrd.TheImpl.Laws.{total-law}
use Rattle.kat_num.specs.declared.values.Value.{Value}
use Rattle.kat_lattice.specs.Sets.{sets_joined}
use Rattle.kat_embed.specs.Keys.{AreKeys, HasKey, has_at}
use Rattle.kat_embed.proofs.KeyLemmas.{keys_as, keys_step}
use Rattle.kat_embed.proofs.keys.+keys_in.Goals as goal

pub returns-in_ok-more-in-len1-up : goal.returns-in_ok-more-in-len1-up
returns-in_ok-more-in-len1-up t c =
    let keys : List Value = c.in_ok-keys-in-len1-up.keys in
    let more : List Value = c.in_ok-more-in-len1-up.more in
    IfOk-weaker c.with_keys.result (λ all. all ≡ sets_joined value_order keys more) (AreKeys (HasKey c.args.parts.now c.args.components.now))
    (λ all same.
    keys_step total-law (λ x key. has_at (slice_get c.args.parts.now x) key ≡ true) c.args.components.now keys more all c.in-len1-up.len_at_least c.in_ok-keys-in-len1-up.ensures
    (keys_as (slice_get c.args.parts.now (get_or c.args.components.now 0 0)) keys more c.with_keys.ensures.kin c.in_ok-more-in-len1-up.ensures) c.with_keys.ensures.kin same) c.with_keys.ensures.joined
