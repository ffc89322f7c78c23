use Rattle.kat_embed.proofs.CatchingUp.{acted_has, merged_has, opened_has, packets_catch_up}
use Rattle.kat_embed.proofs.laws.calls_keep_marks.Goals as goal

pub returns-clause-opened : goal.returns-clause-opened
returns-clause-opened c = opened_has

pub returns-clause-acted : goal.returns-clause-acted
returns-clause-acted c = acted_has c.steps_keep_states.ensures.states

pub returns-clause-merged : goal.returns-clause-merged
returns-clause-merged c = merged_has c.steps_keep_states.ensures.states

pub returns-clause-caught_up : goal.returns-clause-caught_up
returns-clause-caught_up c =
    packets_catch_up (record { goes = c.nodes_go_with_designs.ensures.goes; turned = c.states_go_together.ensures.turned; chained = c.states_go_together.ensures.chained }) c.designs_mean.ensures
    c.marks_tell_operations.ensures c.marks_unite.ensures c.texts_say_one.ensures.shares c.texts_say_one.ensures.packets c.steps_keep_states.ensures.states
