use Rattle.std.proofs.Common.{◌^◌, arith}
use Rattle.kat_design.specs.Designs.{ask_form}
use Rattle.kat_design.specs.Small.{HasConstantsAtMost}
use Rattle.kat_design.proofs.Bounds.{one_ask_few, one_of_all}
use Rattle.kat_design.proofs.answers.design_answer.Goals as goal

pub ask_value-requires-clause-few : goal.ask_value-requires-clause-few
ask_value-requires-clause-few c =
    let there = rw c.as_slice.ensures at c.in-Some.ensures.lookup.3 in
    omega (arith, c.requires.small.size, one_ask_few ask_form c.args.design.now.asks c.args.query c.in-Some.ask.now there.0 (there.1 c.in-Some.ask.now))

pub ask_value-requires-clause-constants : goal.ask_value-requires-clause-constants
ask_value-requires-clause-constants c =
    let there = rw c.as_slice.ensures at c.in-Some.ensures.lookup.3 in
    one_of_all (HasConstantsAtMost (2 ^ 64)) ask_form c.args.design.now.asks c.args.query c.in-Some.ask.now there.0 (there.1 c.in-Some.ask.now) c.requires.small.constants
