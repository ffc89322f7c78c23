use Rattle.kat_invariant.proofs.Relating.{start_legal}
use Rattle.kat_invariant.proofs.laws.starts_are_legal.Goals as goal

pub returns : goal.returns
returns c = start_legal
