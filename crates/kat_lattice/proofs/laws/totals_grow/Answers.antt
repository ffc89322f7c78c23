use Rattle.kat_lattice.proofs.Totals.{totals_grow}
use Rattle.kat_lattice.proofs.laws.totals_grow.Goals as goal

pub returns : goal.returns
returns c = totals_grow
