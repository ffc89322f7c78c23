use Rattle.kat_histories.proofs.Dones.{history_there}
use Rattle.std.proofs.Common.{◌∙◌, ◌++◌, [], List, ap, get_or, map}
use Rattle.kat_histories.specs.Choices.{one_of_each}
use Rattle.kat_histories.specs.Histories.{dones_at}
use Rattle.kat_type.specs.declared.done.Done.{Done}
use Rattle.kat_histories.proofs.groups.history_at.Goals as goal

pub returns : goal.returns
returns c =
    history_there c.args.calls.now c.args.stamps.now c.args.number c.from_vec.result c.requires.within
    (c.from_vec.ensures ∙ c.in_ok-push_dones.ensures ∙ ap (λ (xs : List Done). xs ++ get_or (one_of_each (map (dones_at c.args.calls.now) c.args.stamps.now)) c.args.number []) c.in_ok-ops.ensures.items)
