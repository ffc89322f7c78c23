use Rattle.std.proofs.Common.{arith, rules}
use Rattle.kat_type_file.specs.Limits.{operation_limits}
use Rattle.kat_judging.proofs.Flats.{flat_end, flat_next}
use Rattle.kat_type_file.proofs.limits.operations_limit.Goals as goal

pub loop-operation-preserved : goal.loop-operation-preserved
loop-operation-preserved c =
    flat_next (operation_limits c.args.states.now) c.args.operations.now c.loop-operation.operation-index _ _ c.loop-operation.first c.earlier-first.result c.operation_limit.result
    c.loop-operation.invariant c.loop-operation-test.true c.operation-item.is (search rules) c.earlier-first.ensures

pub returns : goal.returns
returns c =
    flat_end (operation_limits c.args.states.now) c.args.operations.now c.loop-operation.operation-index c.loop-operation.first
    c.loop-operation.invariant (omega (arith, c.loop-operation-test.false))
