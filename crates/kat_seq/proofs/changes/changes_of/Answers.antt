use Rattle.kat_seq.proofs.Small.{small_right}
use Rattle.kat_seq.proofs.changes.changes_of.Goals as goal

pub change_of-requires-clause-right : goal.change_of-requires-clause-right
change_of-requires-clause-right c =
    small_right c.args.assigns.now c.loop-assign.assign-index c.assign-item.result c.requires.rights c.loop-assign-test.true c.assign-item.is
