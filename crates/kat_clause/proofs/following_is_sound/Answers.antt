use Rattle.kat_clause.proofs.Laws.{sound}
use Rattle.kat_clause.proofs.following_is_sound.Goals as goal

pub returns : goal.returns
returns c = sound
