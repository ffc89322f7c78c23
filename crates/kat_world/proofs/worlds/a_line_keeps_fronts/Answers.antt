use Rattle.kat_world.proofs.KeepingFronts.{fronts_kept}
use Rattle.kat_world.proofs.worlds.a_line_keeps_fronts.Goals as goal

pub returns : goal.returns
returns c = fronts_kept
