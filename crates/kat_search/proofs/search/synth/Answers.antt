use Rattle.kat_search.proofs.search.synth.Goals as goal

pub search_listing-requires-clause-listed : goal.search_listing-requires-clause-listed
search_listing-requires-clause-listed c = c.in_ok-listing.ensures.listed

pub search_listing-requires-clause-first : goal.search_listing-requires-clause-first
search_listing-requires-clause-first c = c.in_ok-listing.ensures.first
