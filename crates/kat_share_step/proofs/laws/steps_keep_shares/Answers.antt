use Rattle.kat_share_step.proofs.Keeping.{steps_keep}
use Rattle.kat_share_step.proofs.laws.steps_keep_shares.Goals as goal

pub returns : goal.returns
returns c =
    steps_keep (record {
      steps = c.steps_keep_states.ensures.states;
      mean = c.designs_mean.ensures;
      go = record { goes = c.nodes_go_with_designs.ensures.goes; turned = c.states_go_together.ensures.turned; chained = c.states_go_together.ensures.chained };
      tell = c.marks_tell_operations.ensures;
      marks = c.marks_unite.ensures;
      kept = c.packets_leave_nodes.ensures.kept;
    }) (record { number = c.actions_are_operations.ensures.number; clock = c.actions_are_operations.ensures.clock })
