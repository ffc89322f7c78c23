use Rattle.std.proofs.Common.{◌≡◌, ◌++◌, length}
use Rattle.kat_script.specs.Grammar.{constants_marks}
use Rattle.kat_script.proofs.said.constants.Given as goal

-- the constants found, and then the rest
abbrev pub invariant-loop-constant : goal.invariant-loop-constant
invariant-loop-constant l = l.fn.marks ≡ constants_marks l.found.items ++ l.rest

abbrev pub decreases-loop-constant : goal.decreases-loop-constant
decreases-loop-constant l = length l.rest
