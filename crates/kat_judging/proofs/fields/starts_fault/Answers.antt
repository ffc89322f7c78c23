use Rattle.std.proofs.Common.{arith, refl}
use Rattle.kat_judging.specs.Faults.{start_faults}
use Rattle.kat_judging.proofs.Flats.{flat_end, flat_next}
use Rattle.kat_judging.proofs.fields.starts_fault.Goals as goal

pub loop-state-preserved : goal.loop-state-preserved
loop-state-preserved c =
    flat_next start_faults c.args.states.now c.loop-state.state-index _ _ c.loop-state.first c.earlier-first.result c.start_fault.result
    c.loop-state.invariant c.loop-state-test.true refl c.start_fault.ensures c.earlier-first.ensures

pub returns : goal.returns
returns c = flat_end start_faults c.args.states.now c.loop-state.state-index c.loop-state.first c.loop-state.invariant (omega (arith, c.loop-state-test.false))
