use Rattle.kat_script.proofs.Constants.{one_do, no_do}
use Rattle.kat_script.proofs.said.doing.Goals as goal

pub returns-in-Some-time_at_end : goal.returns-in-Some-time_at_end
returns-in-Some-time_at_end c =
    one_do _ _ _ _ _ _ _ c.in-Some.ensures c.in_ok-args.ensures.0 c.in-Some-time_at_end.ensures.0

pub returns-in-None : goal.returns-in-None
returns-in-None c = no_do _ _ _ _ _ _ c.in-Some.ensures c.in_ok-args.ensures.0 c.in_ok-args.ensures.1 c.in-None.ensures
