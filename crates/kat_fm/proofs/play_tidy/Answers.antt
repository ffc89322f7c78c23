use Rattle.std.proofs.Common.{None, sym, ap, ◌∙◌, subst}
use Rattle.kat_fm.specs.Combinations.{counted}
use Rattle.kat_fm.specs.Eliminations.{choice_from, is_rest}
use Rattle.kat_fm.specs.Views.{combinations, stack_of, AreTidy}
use Rattle.kat_fm.proofs.Distinct.{filter_tidy}
use Rattle.kat_fm.proofs.Steps.{plus_above, step_takes}
use Rattle.kat_fm.proofs.play_tidy.Goals as goal

pub take-requires-clause-above : goal.take-requires-clause-above
take-requires-clause-above c = plus_above c.in-Some.variable (combinations c.args.rows.items) _ c.in_ok-split-in-Some.ensures.plus

pub take-requires-clause-tidy : goal.take-requires-clause-tidy
take-requires-clause-tidy c = subst AreTidy (sym c.in_ok-split-in-Some.ensures.rest) (filter_tidy (is_rest c.in-Some.variable) (combinations c.args.rows.items) c.requires)

pub returns-in_ok-split-in-Some-clause-comes : goal.returns-in_ok-split-in-Some-clause-comes
returns-in_ok-split-in-Some-clause-comes c = λ onward.
    let sides = c.in_ok-split-in-Some.field-0 in
    let choice = ap (λ ws. choice_from (combinations ws) None (counted 0 c.args.vars)) (sym c.deref.ensures.value) ∙ sym c.in_ok-variable.ensures ∙ c.in-Some.is in
    rw (sym (step_takes onward c.args.vars c.in-Some.variable (stack_of c.args.taken.items) (combinations c.args.rows.items)
    (combinations sides.plus.items) (combinations sides.minus.items) (combinations sides.rest.items) choice
    c.in_ok-split-in-Some.ensures.plus c.in_ok-split-in-Some.ensures.minus c.in_ok-split-in-Some.ensures.rest)) (c.take.ensures.comes onward)
