use Rattle.kat_node_texts.proofs.Answering.{answers_each}
use Rattle.kat_node_texts.proofs.laws.answers_are_the_types.Goals as goal

pub returns : goal.returns
returns c = answers_each
