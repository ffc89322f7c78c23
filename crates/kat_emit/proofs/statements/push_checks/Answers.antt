use Rattle.std.proofs.Common.{◌++◌, map, refl}
use Rattle.kat_emit.specs.Statements.{all_checked, stated}
use Rattle.kat_emit.specs.declared.statements.Statement.TheVariants as statement
use Rattle.kat_emit.proofs.Listing.{check_pushed}
use Rattle.kat_emit.proofs.statements.push_checks.Goals as goal

pub loop-param-preserved : goal.loop-param-preserved
loop-param-preserved c =
    check_pushed c.loop-param.into.items c.push.new.self.items (map stated c.args.into.now.items ++ all_checked 0 c.args.params) c.loop-param.param c.args.params (statement.Check c.loop-param.param)
    c.loop-param-test.true c.loop-param.invariant refl c.in_ok-push.ensures.items
