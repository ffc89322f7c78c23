use Rattle.std.proofs.Common.{◌≡◌, ◌++◌, map, take}
use Rattle.kat_histories.specs.Choices.{headed}
use Rattle.kat_histories.proofs.choices.push_headed.Given as goal

abbrev pub invariant-loop-list : goal.invariant-loop-list
invariant-loop-list g l = l.into.items ≡ l.fn.into.items ++ map (headed l.head) (take l.list-index l.lists)
