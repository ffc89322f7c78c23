use Rattle.std.proofs.Common.{arith, rules}
use Rattle.kat_type_file.specs.Limits.{past_params}
use Rattle.kat_judging.proofs.Flats.{flat_end, flat_next}
use Rattle.kat_type_file.proofs.limits.queries_limit.Goals as goal

pub loop-query-preserved : goal.loop-query-preserved
loop-query-preserved c =
    flat_next (λ q. past_params q.params) c.args.queries.now c.loop-query.query-index _ _ c.loop-query.first c.earlier-first.result c.past.result
    c.loop-query.invariant c.loop-query-test.true c.query-item.is (search rules) c.earlier-first.ensures

pub returns : goal.returns
returns c =
    flat_end (λ q. past_params q.params) c.args.queries.now c.loop-query.query-index c.loop-query.first
    c.loop-query.invariant (omega (arith, c.loop-query-test.false))
