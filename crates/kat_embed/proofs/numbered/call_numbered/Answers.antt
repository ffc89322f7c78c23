use Rattle.std.proofs.Common.{List, Option, subst}
use Rattle.kat_num.specs.One.{IsTheOne}
use Rattle.kat_num.specs.declared.values.Value.{Value}
use Rattle.kat_embed.specs.Passing.{ArePassed}
use Rattle.kat_embed.proofs.Numbering.{no_arguments, numbered}
use Rattle.kat_embed.proofs.numbered.call_numbered.Goals as goal

pub returns-in-Some-2-clause-call : goal.returns-in-Some-2-clause-call
returns-in-Some-2-clause-call c =
    numbered c.args.verb c.args.sig.now c.in-Some.sorts.now c.args.number c.args.passed.now c.in-Some-2.args c.in-Some.ensures
    (subst (λ (found : Option (List Value)). IsTheOne (ArePassed c.in-Some.sorts.now c.args.passed.now) found) c.in-Some-2.is c.in_ok-args.ensures)

pub returns-in-Some-2-clause-fits : goal.returns-in-Some-2-clause-fits
returns-in-Some-2-clause-fits c = (returns-in-Some-2-clause-call c).fits

pub returns-in-None-clause-refused : goal.returns-in-None-clause-refused
returns-in-None-clause-refused c =
    no_arguments c.args.verb c.args.sig.now c.in-Some.sorts.now c.args.number c.args.passed.now c.in-Some.ensures
    (subst (λ (found : Option (List Value)). IsTheOne (ArePassed c.in-Some.sorts.now c.args.passed.now) found) c.in-None.is c.in_ok-args.ensures)
