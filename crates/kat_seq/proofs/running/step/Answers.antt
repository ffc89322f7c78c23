use Rattle.kat_seq.proofs.Small.{small_rights}
use Rattle.kat_seq.proofs.running.step.Goals as goal

pub assign-requires-clause-rights : goal.assign-requires-clause-rights
assign-requires-clause-rights c =
    let found = c.in-Some.ensures.lookup in
    rw c.as_slice-in-Some.ensures (small_rights c.args.ty.now c.args.done.now.op c.in-Some.operation.now c.requires.limits
    (rw c.as_slice.ensures at found.3.0) (rw c.as_slice.ensures at found.1))
