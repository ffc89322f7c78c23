use Rattle.kat_fm.proofs.Certificates.{multipliers_refute}
use Rattle.kat_fm.proofs.multipliers_refute.Goals as goal

pub returns : goal.returns
returns c = multipliers_refute
