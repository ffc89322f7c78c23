use Rattle.std.proofs.Common.{arith}
use Rattle.kat_design.specs.Designs.{ask_form}
use Rattle.kat_design.proofs.Bounds.{sum_fits}
use Rattle.kat_design.proofs.answers.+ask_value.Goals as goal

pub plus-requires : goal.plus-requires
plus-requires t c =
    let few = rw c.in-Plus.is at c.requires.few in
    let constants = rw c.in-Plus.is at c.requires.constants in
    rw (c.ask_value-in-Plus.ensures, c.ask_value-in-Plus-2.ensures, c.deref-in-Plus.ensures, c.deref-in-Plus-2.ensures) (
    sum_fits (ask_form c.in-Plus.left.value) (ask_form c.in-Plus.right.value) c.args.parts.now c.args.args.now
    c.requires.state c.requires.args constants.0 constants.1 (omega (arith, few)))

pub minus-requires : goal.minus-requires
minus-requires t c =
    let few = rw c.in-Minus.is at c.requires.few in
    let constants = rw c.in-Minus.is at c.requires.constants in
    rw (c.ask_value-in-Minus.ensures, c.ask_value-in-Minus-2.ensures, c.deref-in-Minus.ensures, c.deref-in-Minus-2.ensures) (
    sum_fits (ask_form c.in-Minus.left.value) (ask_form c.in-Minus.right.value) c.args.parts.now c.args.args.now
    c.requires.state c.requires.args constants.0 constants.1 (omega (arith, few)))
