use Rattle.std.proofs.Common.{◌≡◌, length}
use Rattle.kat_rules.specs.Listed.{IsListing}
use Rattle.kat_gram.specs.Listings.{designs_of, to_come}
use Rattle.kat_type.specs.Types.{type_form}
use Rattle.kat_search.specs.Findings.{IsFor}
use Rattle.kat_search.proofs.Going.{Goes}
use Rattle.kat_search.proofs.search.try_designs.Given as goal

abbrev pub invariant-designs : goal.invariant-designs
invariant-designs l = record {
  listed : IsListing (type_form l.ty) l.options.size l.options.kinds (designs_of l.listing);
  goes : Goes (type_form l.ty) l.options (designs_of l.listing) (to_come l.listing) l.findings;
  is_for : IsFor (type_form l.ty) l.findings;
  of_type : l.trials ≡ l.ty;
}

abbrev pub decreases-designs : goal.decreases-designs
decreases-designs l = length (to_come l.listing)
