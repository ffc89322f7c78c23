use Rattle.std.proofs.Common.{arith}
use Rattle.kat_expr.specs.Terms.{term_of}
use Rattle.kat_expr.proofs.Bounds.{sum_fits}
use Rattle.kat_expr.proofs.evaluation.+eval.Goals as goal

pub plus-requires : goal.plus-requires
plus-requires t c =
    let few = rw c.in-Plus.is at c.requires.few in
    let constants = rw c.in-Plus.is at c.requires.constants in
    rw (c.eval-in-Plus.ensures, c.eval-in-Plus-2.ensures, c.deref-in-Plus.ensures, c.deref-in-Plus-2.ensures) (
    sum_fits (term_of c.in-Plus.left.value) (term_of c.in-Plus.right.value) c.args.state.now c.args.args.now
    c.requires.state c.requires.args constants.0 constants.1 (omega (arith, few)))

pub minus-requires : goal.minus-requires
minus-requires t c =
    let few = rw c.in-Minus.is at c.requires.few in
    let constants = rw c.in-Minus.is at c.requires.constants in
    rw (c.eval-in-Minus.ensures, c.eval-in-Minus-2.ensures, c.deref-in-Minus.ensures, c.deref-in-Minus-2.ensures) (
    sum_fits (term_of c.in-Minus.left.value) (term_of c.in-Minus.right.value) c.args.state.now c.args.args.now
    c.requires.state c.requires.args constants.0 constants.1 (omega (arith, few)))
