use Rattle.std.proofs.Common.{◌≡◌, take, map}
use Rattle.kat_type.specs.Types.{query_form}
use Rattle.kat_embed.proofs.copies.copied_queries.Given as goal

abbrev pub invariant-loop-query : goal.invariant-loop-query
invariant-loop-query l = map query_form l.copies.items ≡ map query_form (take l.query-index l.queries)
