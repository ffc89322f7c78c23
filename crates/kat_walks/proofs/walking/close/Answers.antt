use Rattle.kat_form.specs.Encodings.{encoding}
use Rattle.kat_walks.proofs.WalkSteps.{leaf_closed, leaf_spent}
use Rattle.kat_walks.proofs.walking.close.Goals as goal

pub returns-then-left-eq0-clause-comes : goal.returns-then-left-eq0-clause-comes
returns-then-left-eq0-clause-comes c = leaf_spent (encoding c.args.encoded.now) c.args.encoded.now.numbers c.args.path.now c.args.left c.args.own c.if-left-eq0.true c.requires.node

pub returns-clause-comes : goal.returns-clause-comes
returns-clause-comes c = leaf_closed (encoding c.args.encoded.now) c.args.encoded.now.numbers c.args.path.now c.args.left c.args.own c.in_ok-core.core.items c.if-left-eq0.false c.requires.node c.in_ok-core.ensures.core
