use Rattle.std.proofs.Common.{refl}
use Rattle.kat_picture.specs.Drawing.{ground}
use Rattle.kat_picture.proofs.drawing.ground.Goals as goal

pub returns : goal.returns
unfolding ground
returns c = refl
