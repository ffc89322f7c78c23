use Rattle.std.proofs.Common.{◌≡◌, ◌++◌, ◌%◌, [], get_or, map}
use Rattle.kat_histories.specs.Choices.{one_of_each}
use Rattle.kat_histories.specs.Histories.{dones_at, stamp}
use Rattle.kat_histories.proofs.Dones.{next_dones, rest_of}
use Rattle.kat_histories.proofs.Results.{on_ok}
use Rattle.kat_histories.proofs.groups.+push_dones.Goals as goal

pub returns-in_ok-push-in-len1-up : goal.returns-in_ok-push-in-len1-up
returns-in_ok-push-in-len1-up t c =
    on_ok c.push_dones.result
    (c.push_dones.new.ops.items ≡ c.push.new.self.items ++ get_or (one_of_each (map (dones_at c.args.calls.now) (rest_of c.args.stamps.now))) (c.args.number % c.ways-block.result) [])
    (c.push_dones.new.ops.items ≡ c.args.ops.now.items ++ get_or (one_of_each (map (dones_at c.args.calls.now) c.args.stamps.now)) c.args.number [])
    c.push_dones.ensures
    (λ e. next_dones c.args.calls.now c.args.stamps.now c.args.number c.ways-block.result c.index-calls-number.result (stamp 0 0) c.in_ok-done_at-in-len1-up.field-0 c.args.ops.now.items
    c.push.new.self.items c.push_dones.new.ops.items c.in-len1-up.len_at_least c.requires.few c.requires.within c.ways-block.ensures c.index-calls-number.is c.in_ok-done_at-in-len1-up.ensures
    c.in_ok-push-in-len1-up.ensures.items e)
