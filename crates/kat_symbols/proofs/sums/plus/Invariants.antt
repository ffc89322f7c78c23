use Rattle.std.proofs.Common.{◌≡◌, drop}
use Rattle.kat_symbols.specs.Sums.{add_terms}
use Rattle.kat_symbols.proofs.sums.plus.Given as goal

abbrev pub invariant-loop-t : goal.invariant-loop-t
invariant-loop-t l = add_terms (drop l.t-index l.a.terms.items) l.terms.items ≡ add_terms l.a.terms.items l.b.terms.items
