use Rattle.std.proofs.Common.{arith, rules}
use Rattle.kat_judging.specs.Faults.{first_families, operation_faults}
use Rattle.kat_judging.proofs.Flats.{flat_end, flat_next}
use Rattle.kat_type_file.proofs.items.operations_fault.Goals as goal

pub loop-operation-preserved : goal.loop-operation-preserved
loop-operation-preserved c =
    flat_next (operation_faults c.args.states.now (first_families c.args.operations.now)) c.args.operations.now c.loop-operation.operation-index _ _
    c.loop-operation.first c.earlier-first.result c.in_ok-fault.fault
    c.loop-operation.invariant c.loop-operation-test.true c.operation-item.is (search rules) c.earlier-first.ensures

pub returns : goal.returns
returns c =
    flat_end (operation_faults c.args.states.now (first_families c.args.operations.now)) c.args.operations.now c.loop-operation.operation-index c.loop-operation.first
    c.loop-operation.invariant (omega (arith, c.loop-operation-test.false))
