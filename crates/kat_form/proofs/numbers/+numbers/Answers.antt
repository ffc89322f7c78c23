use Rattle.std.proofs.Common.{arith}
use Rattle.kat_form.proofs.Parts.{sized_at_most, sized_above, sized_at, no_deeper}
use Rattle.kat_form.proofs.numbers.+numbers.Goals as goal

pub numbers-numbers_in-requires : goal.numbers-numbers_in-requires
numbers-numbers_in-requires t c = rw c.deref.ensures.value ((sized_at_most c.args.formula.now c.in-AtMost.row c.in-AtMost.is c.requires.sized).variables)

pub numbers-numbers_in-requires-in-Above : goal.numbers-numbers_in-requires-in-Above
numbers-numbers_in-requires-in-Above t c = rw c.deref-in-Above.ensures.value ((sized_above c.args.formula.now c.in-Above.row c.in-Above.is c.requires.sized).variables)

pub numbers_of-numbers-requires : goal.numbers_of-numbers-requires
numbers_of-numbers-requires t c =
    let i = c.loop-formula.formula-index in (
      omega (arith, no_deeper c.args.formulas.now i c.formula-item.result c.loop-formula-test.true c.formula-item.is, c.decreases),
      sized_at c.args.formulas.now i c.formula-item.result c.loop-formula-test.true c.formula-item.is c.requires.sized,
    )
