use Rattle.std.proofs.Common.{◌≡◌, ◌+◌, length}
use Rattle.kat_pseudocode.specs.Naming.{only_acting}
use Rattle.kat_pseudocode.proofs.naming.only_acting.Given as goal

abbrev pub invariant-effects : goal.invariant-effects
invariant-effects g l = (only_acting l.op l.rest ≡ only_acting 0 l.fn.effects) × (l.op + length l.rest ≡ length l.fn.effects)

abbrev pub decreases-effects : goal.decreases-effects
decreases-effects g l = length l.rest
