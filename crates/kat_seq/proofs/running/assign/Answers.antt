use Rattle.std.proofs.Common.{arith}
use Rattle.kat_seq.proofs.Small.{small_right}
use Rattle.kat_seq.proofs.running.assign.Goals as goal

pub change_of-change-requires-clause-right : goal.change_of-change-requires-clause-right
change_of-change-requires-clause-right c =
    small_right c.args.assigns.now 0 c.only-item.result c.requires.rights (let h = c.in-len1.len_at_least in omega arith) c.only-item.is
