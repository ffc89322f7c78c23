use Rattle.std.proofs.Common.{◌≡◌, length}
use Rattle.kat_pseudocode.specs.Naming.{acts}
use Rattle.kat_pseudocode.proofs.naming.acts.Given as goal

abbrev pub invariant-effects : goal.invariant-effects
invariant-effects g l = acts l.rest ≡ acts l.fn.effects

abbrev pub decreases-effects : goal.decreases-effects
decreases-effects g l = length l.rest
