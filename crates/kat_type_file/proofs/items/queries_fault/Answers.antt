use Rattle.std.proofs.Common.{arith, rules}
use Rattle.kat_judging.specs.Faults.{query_faults}
use Rattle.kat_judging.proofs.Flats.{flat_end, flat_next}
use Rattle.kat_type_file.proofs.items.queries_fault.Goals as goal

pub loop-query-preserved : goal.loop-query-preserved
loop-query-preserved c =
    flat_next (query_faults c.args.states.now) c.args.queries.now c.loop-query.query-index _ _ c.loop-query.first c.earlier-first.result c.in_ok-fault.fault
    c.loop-query.invariant c.loop-query-test.true c.query-item.is (search rules) c.earlier-first.ensures

pub returns : goal.returns
returns c =
    flat_end (query_faults c.args.states.now) c.args.queries.now c.loop-query.query-index c.loop-query.first c.loop-query.invariant (omega (arith, c.loop-query-test.false))
