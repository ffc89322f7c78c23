use Rattle.kat_script.proofs.Bridge.{scripts_are_judged}
use Rattle.kat_emit_tests.proofs.goldens.drawn_golden.Goals as goal

pub golden_of-requires-clause-judged : goal.golden_of-requires-clause-judged
golden_of-requires-clause-judged c = scripts_are_judged c.args.design.now.sig _ c.in-Ok.script c.in-Ok.ensures.script
