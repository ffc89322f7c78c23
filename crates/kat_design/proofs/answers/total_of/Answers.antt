use Rattle.std.proofs.Common.{arith}
use Rattle.kat_design.proofs.Bounds.{total_small}
use Rattle.kat_design.proofs.answers.total_of.Goals as goal

pub total-requires : goal.total-requires
total-requires c = omega (arith, total_small c.args.tally.now c.requires)

pub number_value-requires : goal.number_value-requires
number_value-requires c = omega (arith, total_small c.args.tally.now c.requires, c.total.ensures)
