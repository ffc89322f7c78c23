use Rattle.std.proofs.Common.{◌∙◌, sym, pos, FitsSigned, get_or, arith, rules}
use Rattle.std.specs.Int.{w128}
use Rattle.std.proofs.lemmas.Int.{to_z-of_z}
use Rattle.kat_linear.proofs.Columns.{coefficient_at}
use Rattle.kat_linear.proofs.coefficient.Goals as goal

pub returns-then-v-variable : goal.returns-then-v-variable
returns-then-v-variable c =
    let fits : FitsSigned w128 (get_or c.args.terms.now c.loop-v.v-index (0, pos 0)).1 = search rules in
    to_z-of_z _ _ fits
    ∙ sym (c.loop-v.invariant ∙ coefficient_at c.args.terms.now c.loop-v.v-index (0, pos 0) c.args.variable c.requires (omega arith) c.if-v-variable.true)
