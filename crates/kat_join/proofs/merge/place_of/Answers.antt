use Rattle.std.proofs.Common.{rules}
use Rattle.std.proofs.lemmas.List.Sorted.{answers_always}
use Rattle.kat_join.proofs.Places.{at_from_search, gap_from_search}
use Rattle.kat_join.proofs.merge.place_of.Goals as goal

-- the closure gives an entry's key
pub returns-clause-at : goal.returns-clause-at
returns-clause-at g c =
    let facts = c.binary_search_by_key.ensures in
    at_from_search g.M.Key.Ord.cmp g.M.Entries.key c.args.key.now c.args.entries.now c.binary_search_by_key.result facts.bound (facts.position g.M.Entries.key (answers_always _ _ _ (λ f a r h called. search rules)))

pub returns-clause-gap : goal.returns-clause-gap
returns-clause-gap g c =
    let facts = c.binary_search_by_key.ensures in
    gap_from_search g.met.M.Key.Ord.total g.M.Entries.key c.args.key.now c.args.entries.now c.binary_search_by_key.result c.requires facts.bound (facts.position g.M.Entries.key (answers_always _ _ _ (λ f a r h called. search rules)))
