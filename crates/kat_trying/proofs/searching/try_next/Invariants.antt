use Rattle.std.proofs.Common.{◌≡◌}
use Rattle.kat_trying.proofs.searching.try_next.Given as goal

abbrev pub invariant-designs : goal.invariant-designs
invariant-designs l = l.trials ≡ l.ty
