use Rattle.std.proofs.Common.{◌≡◌, map}
use Rattle.kat_histories.specs.Groups.{group_of}
use Rattle.kat_histories.proofs.groups.groups_of.Given as goal

abbrev pub invariant-loop-stamps : goal.invariant-loop-stamps
invariant-loop-stamps l = l.groups.items ≡ map (group_of l.calls) l.yielded
