use Rattle.kat_refute.proofs.HintedSteps.{hinted_refute}
use Rattle.kat_refute.proofs.hinted_lines_refute.Goals as goal

pub returns : goal.returns
returns c = hinted_refute
