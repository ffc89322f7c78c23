use Rattle.kat_num.specs.contracts.values.ValueOrd.TheImpl.Laws.{total-law}
use Rattle.kat_node.proofs.Uniting.{packets_go, with_packets_are}
use Rattle.kat_node.proofs.laws.packets_leave_nodes.Goals as goal

pub returns-clause-go : goal.returns-clause-go
returns-clause-go c = λ d node packets sorted is each. packets_go total-law c.tells_values_apart.ensures d node packets sorted is each

pub returns-clause-kept : goal.returns-clause-kept
returns-clause-kept c = λ d node packets sorted is each. with_packets_are total-law d node packets sorted is each
