use Rattle.kat_embed.proofs.Keeping.{acted_state, merged_state}
use Rattle.kat_embed.proofs.laws.calls_keep_states.Goals as goal

pub returns-clause-acted : goal.returns-clause-acted
returns-clause-acted c = λ k call has sound fits passed is. acted_state c.steps_keep_states.ensures.states k call has sound fits passed is

pub returns-clause-merged : goal.returns-clause-merged
returns-clause-merged c =
    λ bytes before after packet mine theirs sound same is other near. merged_state c.steps_keep_states.ensures.states before after packet mine theirs sound same is other near
