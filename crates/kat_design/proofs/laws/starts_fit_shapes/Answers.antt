use Rattle.kat_design.proofs.SmallDesigns.{starts_fit}
use Rattle.kat_design.proofs.laws.starts_fit_shapes.Goals as goal

pub returns : goal.returns
returns c = starts_fit
