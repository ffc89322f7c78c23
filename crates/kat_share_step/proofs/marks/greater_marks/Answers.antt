use Rattle.std.proofs.Common.{ap, ◌∙◌}
use Rattle.kat_lattice.specs.Tallies.{Sums, tallies_joined}
use Rattle.kat_share_step.proofs.Sums.{sums_joined}
use Rattle.kat_share_step.proofs.marks.greater_marks.Goals as goal

pub returns-clause-sums : goal.returns-clause-sums
returns-clause-sums c =
    sums_joined c.packets_leave_nodes.ensures.kept c.args.marks.now c.args.others.now c.join.new.self c.requires.mine c.requires.theirs
    (c.in_ok-join.ensures.ok ∙ ap (λ (t : Sums). tallies_joined t c.args.others.now) c.in_ok-both.ensures)
