use Rattle.std.proofs.Common.{◌≡◌, take}
use Rattle.kat_symbols.specs.Sums.{opposite_terms}
use Rattle.kat_symbols.proofs.sums.opposite_terms.Given as goal

abbrev pub invariant-loop-t : goal.invariant-loop-t
invariant-loop-t l = l.opposites.items ≡ opposite_terms (take l.t-index l.terms)
