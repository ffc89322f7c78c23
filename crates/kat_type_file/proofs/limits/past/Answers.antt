use Rattle.std.proofs.Common.{arith}
use Rattle.kat_judging.specs.Faults.{fault}
use Rattle.kat_judging.proofs.Flats.{flat_end, flat_next}
use Rattle.kat_type_file.proofs.Weights.{fault_here}
use Rattle.kat_type_file.proofs.limits.past.Goals as goal

pub loop-index-preserved : goal.loop-index-preserved
loop-index-preserved g c =
    flat_next (λ it. fault 9 (g.T.Placed.place it)) c.args.list.now c.loop-index.index _ c.index-list-index.result c.loop-index.first c.earlier-first.result c.fault_if.result
    c.loop-index.invariant c.loop-index-test.true c.index-list-index.is (fault_here _ _ _ c.fault_if.ensures c.place.ensures) c.earlier-first.ensures

pub returns : goal.returns
returns g c =
    flat_end (λ it. fault 9 (g.T.Placed.place it)) c.args.list.now c.loop-index.index c.loop-index.first c.loop-index.invariant (omega (arith, c.loop-index-test.false))
