use Rattle.std.proofs.Common.{◌≡◌, length, map, take}
use Rattle.std.specs.List.{flat_map}
use Rattle.kat_histories.specs.Choices.{headed}
use Rattle.kat_histories.proofs.calls.+arguments_of.Given as goal

abbrev pub decreases-arguments_of : goal.decreases-arguments_of
decreases-arguments_of l = length l.sorts.now

abbrev pub invariant-loop-value : goal.invariant-loop-value
invariant-loop-value l = l.lists.items ≡ flat_map (λ x. map (headed x) l.rests.items) (take l.value-index l.value-items)
