use Rattle.kat_node.proofs.Going.{parts_written}
use Rattle.kat_node.proofs.NodeTexts.{is_held, node_read}
use Rattle.kat_node.proofs.laws.written_nodes_are_read.Goals as goal

pub returns : goal.returns
returns c = λ d node is. record { json = node_read node (is_held d node is) (parts_written d.components node.replica.state.parts is.parts); possible = is }
