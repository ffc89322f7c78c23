use Rattle.std.proofs.Common.{refl}
use Rattle.kat_picture.specs.Drawing.{first_text}
use Rattle.kat_picture.proofs.drawing.first_text.Goals as goal

pub returns : goal.returns
unfolding first_text
returns c = refl
