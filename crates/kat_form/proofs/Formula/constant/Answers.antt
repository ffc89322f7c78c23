use Rattle.std.proofs.Common.{ap, ◌∙◌}
use Rattle.kat_form.specs.Readings.{Reading}
use Rattle.kat_form.proofs.Same.{same_reading}
use Rattle.kat_form.proofs.Formula.constant.Goals as goal

pub returns : goal.returns
returns c = c.constant.ensures ∙ ap (λ (r : Reading). r.constant) (same_reading c.args.self.now)
