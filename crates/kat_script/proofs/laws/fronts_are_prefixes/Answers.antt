use Rattle.kat_script.proofs.Fronts.{fronts_nest, fronts_up_to}
use Rattle.kat_script.proofs.laws.fronts_are_prefixes.Goals as goal

pub returns-clause-up_to : goal.returns-clause-up_to
returns-clause-up_to c = λ past world holder facts front origin. fronts_up_to past holder facts.timed front origin

pub returns-clause-nested : goal.returns-clause-nested
returns-clause-nested c = λ past world some other facts front front_too. fronts_nest past some other facts.timed front front_too
