use Rattle.kat_script.proofs.Bridge.{scripts_are_judged}
use Rattle.kat_script.proofs.laws.scripts_are_judged.Goals as goal

pub returns : goal.returns
returns c = scripts_are_judged
