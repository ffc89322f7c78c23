use Rattle.kat_design.specs.Designs.{design_form}
use Rattle.kat_script.proofs.Bridge.{scripts_are_judged}
use Rattle.kat_trying.proofs.long_runs.answers_of_design.Goals as goal

pub converge-written-requires-clause-sorted : goal.converge-written-requires-clause-sorted
converge-written-requires-clause-sorted c = c.accepted_designs_are_well_sorted.ensures.sorted (design_form c.args.design.now) c.requires.accepted

pub converge-written-requires-clause-judged : goal.converge-written-requires-clause-judged
converge-written-requires-clause-judged c = scripts_are_judged c.args.design.now.sig c.args.text.now c.in-Ok.script c.in-Ok.ensures.script
