use Rattle.std.proofs.Common.{◌≡◌, map, take}
use Rattle.kat_cases.specs.Stacks.{step_of, literal_of}
use Rattle.kat_cases.proofs.stack.Walk.path.Given as goal

abbrev pub invariant-loop-branch : goal.invariant-loop-branch
invariant-loop-branch l = l.path.items ≡ map literal_of (map step_of (take l.branch-index l.branch-items))
