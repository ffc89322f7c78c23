use Rattle.kat_node_texts.proofs.Refusing.{files_are}
use Rattle.kat_node_texts.proofs.laws.steps_are_of_designs.Goals as goal

pub returns : goal.returns
returns c = files_are
