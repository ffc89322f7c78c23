use Rattle.std.proofs.Common.{[]}
use Rattle.kat_script.specs.World.{first_world}
use Rattle.kat_script.proofs.Worlds.{facts_first}
use Rattle.kat_world.proofs.Agreeing.{one_text}
use Rattle.kat_world.proofs.laws.sequential_answers_are_the_models.Goals as goal

pub returns : goal.returns
returns c = λ ty script text judged answers. one_text ty [] (first_world script.replicas) script.lines text (facts_first script.replicas) judged.lines answers
