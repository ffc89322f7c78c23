use Rattle.kat_seq.proofs.Growing.{state_small}
use Rattle.kat_seq.proofs.laws.states_grow_slowly.Goals as goal

pub returns : goal.returns
returns c = state_small
