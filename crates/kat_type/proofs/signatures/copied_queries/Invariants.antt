use Rattle.std.proofs.Common.{◌≡◌, take}
use Rattle.kat_type.proofs.signatures.copied_queries.Given as goal

abbrev pub invariant-loop-query : goal.invariant-loop-query
invariant-loop-query l = l.copies.items ≡ take l.query-index l.queries
