use Rattle.kat_shape.proofs.ByLeaves.{leaves_determine}
use Rattle.kat_shape.proofs.laws.leaves_determine_cells.Goals as goal

pub returns : goal.returns
returns c = leaves_determine
