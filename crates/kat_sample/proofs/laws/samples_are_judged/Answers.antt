use Rattle.kat_sample.proofs.Judging.{sample_judged}
use Rattle.kat_sample.proofs.laws.samples_are_judged.Goals as goal

pub returns : goal.returns
returns c = sample_judged
