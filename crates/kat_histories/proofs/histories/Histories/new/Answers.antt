use Rattle.std.proofs.Common.{◌≡◌, ◌∙◌, List, ap, length, rules, take}
use Rattle.kat_histories.specs.Groups.{groups_of}
use Rattle.kat_histories.specs.Histories.{all_histories}
use Rattle.kat_histories.specs.Pools.{calls_of}
use Rattle.kat_histories.specs.declared.calls.Call.{Call}
use Rattle.kat_histories.specs.declared.histories.TheConstants.{HISTORY_LIMIT}
use Rattle.kat_histories.proofs.Ways.{total_of_groups}
use Rattle.kat_histories.proofs.histories.Histories.new.Goals as goal

pub invariant_of-result : goal.invariant_of-result
invariant_of-result c =
    let long : c.len.result ≡ length c.in_ok-calls.calls.items = search rules in
    let groups : c.in_ok-groups.groups.items ≡ groups_of (length c.in_ok-calls.calls.items) = c.in_ok-groups.ensures ∙ ap groups_of long in
    (groups, total_of_groups c.in_ok-calls.calls.items c.in_ok-groups.groups.items c.deref.result.now c.total_of-len.result groups c.deref.ensures.value c.total_of-len.ensures)

pub returns : goal.returns
returns c = ap (λ (calls : List Call). take HISTORY_LIMIT (all_histories calls)) (c.in_ok-calls.ensures ∙ ap calls_of c.in_ok-sig.ensures)
