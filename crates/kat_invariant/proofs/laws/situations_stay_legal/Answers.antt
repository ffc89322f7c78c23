use Rattle.kat_invariant.proofs.StayLegal.{stays_legal}
use Rattle.kat_invariant.proofs.laws.situations_stay_legal.Goals as goal

pub returns : goal.returns
returns c = λ ty d s done go legal follows. stays_legal ty d go s legal done follows
