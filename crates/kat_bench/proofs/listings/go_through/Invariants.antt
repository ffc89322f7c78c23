use Rattle.std.proofs.Common.{◌≤◌, length}
use Rattle.kat_gram.specs.Listings.{given_of}
use Rattle.kat_bench.proofs.listings.go_through.Given as goal

abbrev pub invariant-designs : goal.invariant-designs
invariant-designs l = length (given_of l.listing) ≤ l.counter
