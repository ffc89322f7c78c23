use Rattle.kat_replica.proofs.Filled.{has_same_shape}
use Rattle.kat_replica.proofs.applying.step_cell.Goals as goal

pub goes_with-requires : goal.goes_with-requires
goes_with-requires c = has_same_shape c.args.cell.now _ c.in_ok-effect.effect c.in_ok-effect.ensures
