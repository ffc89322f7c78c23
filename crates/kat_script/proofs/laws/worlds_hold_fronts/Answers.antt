use Rattle.kat_script.proofs.Worlds.{facts_of_worlds}
use Rattle.kat_script.proofs.laws.worlds_hold_fronts.Goals as goal

pub returns : goal.returns
returns c = facts_of_worlds
