use Rattle.kat_expr.proofs.Limits.{more_value, more_slot, more_constants}
use Rattle.kat_expr.proofs.laws.limits_may_grow.Goals as goal

pub returns-clause-values : goal.returns-clause-values
returns-clause-values c = more_value

pub returns-clause-slots : goal.returns-clause-slots
returns-clause-slots c = more_slot

pub returns-clause-constants : goal.returns-clause-constants
returns-clause-constants c = more_constants
