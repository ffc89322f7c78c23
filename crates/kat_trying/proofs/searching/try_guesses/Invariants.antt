use Rattle.std.proofs.Common.{◌≡◌}
use Rattle.kat_trying.proofs.searching.try_guesses.Given as goal

abbrev pub invariant-guesses : goal.invariant-guesses
invariant-guesses l = l.trials ≡ l.ty
