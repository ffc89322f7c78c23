use Rattle.kat_design.proofs.Joining.{joins_mean}
use Rattle.kat_design.proofs.meanings.joins_mean.Goals as goal

pub returns : goal.returns
returns g c = λ e are. joins_mean e are
