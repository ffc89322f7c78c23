use Rattle.kat_linear.proofs.Contradictions.{refuted}
use Rattle.kat_linear.proofs.certificates_refute.Goals as goal

pub returns : goal.returns
returns c = refuted
