use Rattle.std.proofs.Common.{◌≡◌, ◌++◌, subst}
use Rattle.kat_design.specs.Denotations.{denotation_of}
use Rattle.kat_node.specs.Packets.{all_united, parts_of, with_packets}
use Rattle.kat_node.proofs.Uniting.{all_operations}
use Rattle.kat_step.specs.Steps.{done_from, with_actions}
use Rattle.kat_step.proofs.Acting.{actions_clock, actions_denote, actions_number, packets_number}
use Rattle.kat_step.proofs.laws.actions_are_operations.Goals as goal

pub returns-clause-denotes : goal.returns-clause-denotes
returns-clause-denotes c = λ d xs node actions sorted is. actions_denote d (c.designs_mean.ensures d sorted) xs node actions is

pub returns-clause-unites : goal.returns-clause-unites
returns-clause-unites c = λ d xs lists node packets actions sorted once all is same.
    let means = c.designs_mean.ensures d sorted in
    let united = with_packets node packets in
    subst (λ n. parts_of (with_actions d united actions) ≡ denotation_of d (all_united xs lists ++ done_from n united.replica.clock actions)) (packets_number node packets)
    (actions_denote d means (all_united xs lists) united actions (all_operations d means xs lists node packets once all is same))

pub returns-clause-number : goal.returns-clause-number
returns-clause-number c = λ d node actions. actions_number d node actions

pub returns-clause-clock : goal.returns-clause-clock
returns-clause-clock c = λ d node actions. actions_clock d node actions
