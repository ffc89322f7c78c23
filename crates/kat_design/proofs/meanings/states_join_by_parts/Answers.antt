use Rattle.kat_design.proofs.Kinship.{joined_by_parts}
use Rattle.kat_design.proofs.meanings.states_join_by_parts.Goals as goal

pub returns : goal.returns
returns c = λ d xs ys h k. joined_by_parts d.components xs ys h k
