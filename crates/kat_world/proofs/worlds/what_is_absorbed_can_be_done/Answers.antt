use Rattle.kat_world.proofs.AsTypes.{absorbed_done}
use Rattle.kat_world.proofs.worlds.what_is_absorbed_can_be_done.Goals as goal

pub returns : goal.returns
returns c = absorbed_done
