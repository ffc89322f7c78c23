use Rattle.std.proofs.Common.{◌≡◌}
use Rattle.kat_trying.proofs.searching.try_listings.Given as goal

abbrev pub invariant-sets : goal.invariant-sets
invariant-sets l = l.trials ≡ l.ty
