use Rattle.kat_linear.specs.Rows.{form_of}
use Rattle.kat_potential.proofs.Gaps.{row_suits}
use Rattle.kat_potential.proofs.meeting.is_met.Goals as goal

pub returns : goal.returns
returns c = λ e. row_suits c.args.nought (form_of c.args.row.now) c.in-Some.difference c.args.values.now c.in-Some.ensures (c.is_met.ensures e) c.requires
