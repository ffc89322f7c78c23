use Rattle.kat_node.proofs.Going.{parts_go, parts_roomy, parts_small, parts_written}
use Rattle.kat_node.proofs.laws.nodes_go_with_designs.Goals as goal

pub returns-clause-written : goal.returns-clause-written
returns-clause-written c = λ d node is. parts_written d.components node.replica.state.parts is.parts

pub returns-clause-goes : goal.returns-clause-goes
returns-clause-goes c = λ d node sorted is. parts_go c.tells_values_apart.ensures d.sig.ops d.components node.replica.state.parts sorted.components is.parts

pub returns-clause-small : goal.returns-clause-small
returns-clause-small c = λ d node sorted is. parts_small d.sig.ops d.components node.replica.state.parts sorted.components is.parts

pub returns-clause-room : goal.returns-clause-room
returns-clause-room c = λ d node is. parts_roomy d.components node.replica.state.parts is.parts
