use Rattle.std.proofs.Common.{ap, arith}
use Rattle.kat_cases.specs.Stacks.{Progress}
use Rattle.kat_cases.proofs.Branches.{path_back}
use Rattle.kat_cases.proofs.stack.Walk.path.Goals as goal

pub returns : goal.returns
returns c = path_back c.loop-branch.path.items c.self.inside.branches.items c.deref-branch-items.result.now c.loop-branch.branch-index c.args.self.now.steps c.loop-branch.invariant (omega arith) c.deref-branch-items.ensures.value (ap (λ (p : Progress). p.steps) c.self.view_is)
