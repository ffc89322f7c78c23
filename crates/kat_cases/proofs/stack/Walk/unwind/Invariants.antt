use Rattle.std.proofs.Common.{◌≡◌, ℕ, length}
use Rattle.kat_cases.specs.Nodes.{Setting}
use Rattle.kat_cases.specs.Guests.{IsPath}
use Rattle.kat_cases.specs.Stacks.{HasCore, path_of}
use Rattle.kat_cases.proofs.stack.Walk.unwind.Given as goal

abbrev pub invariant-loop-branch : goal.invariant-loop-branch
invariant-loop-branch l = record {
  path : (g : ℕ) → IsPath g (path_of l.initial.self.steps) → IsPath g (path_of l.self.steps);
  leaves : l.self.left ≡ l.initial.self.left;
  goes : (s : Setting) (effort : ℕ) → HasCore s effort l.initial.self l.initial.core.items → HasCore s effort l.self l.core.items;
}

abbrev pub decreases-loop-branch : goal.decreases-loop-branch
decreases-loop-branch l = length l.self.steps
