use Rattle.kat_search.proofs.search.search_listing.Goals as goal

pub try_designs-requires-clause-of_type : goal.try_designs-requires-clause-of_type
try_designs-requires-clause-of_type c = c.in_ok-trials.ensures
