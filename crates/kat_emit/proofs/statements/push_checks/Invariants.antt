use Rattle.std.proofs.Common.{◌≡◌, ◌++◌, ◌-◌, map}
use Rattle.kat_emit.specs.Statements.{all_checked, stated}
use Rattle.kat_emit.proofs.statements.push_checks.Given as goal

abbrev pub invariant-loop-param : goal.invariant-loop-param
invariant-loop-param l = map stated l.into.items ++ all_checked l.param (l.params - l.param) ≡ map stated l.fn.into.items ++ all_checked 0 l.params
