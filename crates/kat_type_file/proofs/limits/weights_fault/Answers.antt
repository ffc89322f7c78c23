use Rattle.std.proofs.Common.{arith, rules}
use Rattle.kat_judging.specs.Faults.{scope_of}
use Rattle.kat_type_file.specs.Limits.{weight_faults}
use Rattle.kat_judging.proofs.Flats.{flat_end, flat_next}
use Rattle.kat_type_file.proofs.limits.weights_fault.Goals as goal

pub loop-assignment-preserved : goal.loop-assignment-preserved
loop-assignment-preserved c =
    flat_next (weight_faults (scope_of c.args.states.now c.args.params.now)) c.args.assignments.now c.loop-assignment.assignment-index _ _ c.loop-assignment.first c.earlier-first.result c.weight_fault.result
    c.loop-assignment.invariant c.loop-assignment-test.true c.assignment-item.is (search rules) c.earlier-first.ensures

pub returns : goal.returns
returns c =
    flat_end (weight_faults (scope_of c.args.states.now c.args.params.now)) c.args.assignments.now c.loop-assignment.assignment-index c.loop-assignment.first
    c.loop-assignment.invariant (omega (arith, c.loop-assignment-test.false))
