use Rattle.std.proofs.Common.{sym, ap, ◌∙◌, arith, rules, FitsSigned, to_z, of_z}
use Rattle.std.specs.Int.{w128}
use Rattle.std.proofs.lemmas.Int.{to_z-of_z}
use Rattle.kat_linear.specs.Rows.{forms}
use Rattle.kat_linear.proofs.Balances.{balance_more, balance_lost, balance_whole}
use Rattle.kat_linear.proofs.variables_cancel.Goals as goal
use Rattle.kat_linear.proofs.variables_cancel.Goals.{then-sum-ne0, else-sum-ne0}

pub returns : goal.returns
returns c = balance_whole (forms c.args.rows.now) c.args.multipliers.now c.loop-variable.from c.loop-variable.balanced c.loop-variable.invariant.1 c.in_default.ensures

pub loop-variable-preserved : goal.loop-variable-preserved
loop-variable-preserved c =
    let fits : FitsSigned w128 c.in-Some-column_sum.sum = search rules in (
      omega arith,
      rw c.from-from.ensures (elim c.if-sum-ne0.branch [
        | then-sum-ne0 w ↦ rw w.balanced-is (balance_lost (forms c.args.rows.now) c.args.multipliers.now c.loop-variable.from c.in-Some.variable c.loop-variable.balanced c.loop-variable.invariant.1 c.in-Some.ensures c.in-Some-column_sum.ensures.0 (λ e. w.if-sum-ne0.true (ap (of_z w128) (c.in-Some-column_sum.ensures.1 ∙ e))))
        | else-sum-ne0 w ↦ rw w.balanced-is (balance_more (forms c.args.rows.now) c.args.multipliers.now c.loop-variable.from c.in-Some.variable c.loop-variable.balanced c.loop-variable.invariant.1 c.in-Some.ensures c.in-Some-column_sum.ensures.0 (sym c.in-Some-column_sum.ensures.1 ∙ sym (to_z-of_z w128 c.in-Some-column_sum.sum fits) ∙ ap (to_z w128) w.if-sum-ne0.false))
      ]),
    )
