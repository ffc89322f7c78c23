use Rattle.std.proofs.Common.{refl}
use Rattle.kat_cases.proofs.Finding.{may_be}
use Rattle.kat_cases.proofs.trying.may_be_assumed.Goals as goal

pub returns-then-are_literals : goal.returns-then-are_literals
returns-then-are_literals c = λ once. may_be c.args.greatest c.args.literals.now (c.if-are_literals.ensures refl) (c.has_each_once.ensures once)
