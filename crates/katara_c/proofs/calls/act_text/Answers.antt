use Rattle.katara_c.specs.Kept.ActsNot.{no_call, refused}
use Rattle.katara_c.proofs.calls.act_text.Goals as goal

pub returns-in-Err-clause-refused : goal.returns-in-Err-clause-refused
returns-in-Err-clause-refused c = λ less. no_call c.in-Err.error c.in-Err.ensures.refused c.call_code.ensures

pub returns-in-Err-act-clause-refused : goal.returns-in-Err-act-clause-refused
returns-in-Err-act-clause-refused c = λ less. refused c.in-Ok.call c.in-Err-act.error c.in-Ok.ensures.call c.in-Err-act.ensures.refused c.step_code.ensures
