use Rattle.kat_linear.specs.Rows.{form_of}
use Rattle.kat_potential.proofs.Gaps.{negation_suits}
use Rattle.kat_potential.proofs.meeting.is_negation_met.Goals as goal

pub returns : goal.returns
returns c = λ e. negation_suits c.args.nought (form_of c.args.row.now) c.in-Some.difference c.in-Some-opposite.opposite c.args.values.now c.in-Some.ensures c.in-Some-opposite.ensures (c.is_met.ensures e) c.requires
