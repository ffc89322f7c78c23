use Rattle.kat_script.proofs.Standing.{judged_there, judged_further}
use Rattle.kat_script.proofs.laws.lines_are_judged_where_they_stand.Goals as goal

pub returns-clause-there : goal.returns-clause-there
returns-clause-there c = judged_there

pub returns-clause-further : goal.returns-clause-further
returns-clause-further c = judged_further
