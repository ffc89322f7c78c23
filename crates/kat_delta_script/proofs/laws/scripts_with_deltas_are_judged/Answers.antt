use Rattle.kat_delta_script.proofs.Bridging.{delta_scripts_are_judged}
use Rattle.kat_delta_script.proofs.laws.scripts_with_deltas_are_judged.Goals as goal

pub returns : goal.returns
returns c = delta_scripts_are_judged
